-- Lists that grow.
use Rattle.std.proofs.Common.{◌≡◌, List, [], ◌++◌, sym, ap, ◌∙◌, append_assoc, append-nil}

-- a list is another one and more
abbrev pub Grows : {X : Type 0} → List X → List X → Type 0
Grows {X} old new = (more : List X) × (new ≡ old ++ more)

-- it is itself and nothing more
pub grows_not : {X : Type 0} (xs : List X) → Grows xs xs
grows_not xs = ([], sym (append-nil xs))

-- more, and more after that
pub joined : {X : Type 0} (old mid new first then : List X) → mid ≡ old ++ first → new ≡ mid ++ then → new ≡ old ++ (first ++ then)
joined old mid new first then one other = other ∙ ap (λ xs. xs ++ then) one ∙ append_assoc old first then

pub grows_then : {X : Type 0} (old mid new : List X) → Grows old mid → Grows mid new → Grows old new
grows_then old mid new first then = (first.0 ++ then.0, joined old mid new first.0 then.0 first.1 then.1)
