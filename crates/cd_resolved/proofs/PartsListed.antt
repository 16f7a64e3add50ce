-- Going on from one of a list to the next while something is made of each.
use Rattle.std.proofs.Common.{◌≡◌, ◌+◌, ◌<◌, ◌++◌, ℕ, List, [], ◌∷◌, map, drop, length, get_or, sym, ap, subst, ◌∙◌}
use Rattle.std.proofs.lemmas.List.{append_assoc, map_push, drop_more}
use Rattle.cd_model.specs.AllOf.{AllOf}
use Rattle.cd_model.proofs.Covered.{each_both}

module _ {X Z : Type 0} (wanted : X → Z) (all : List X) (index : ℕ) (one : X) (within : index < length all)
    (item : one ≡ get_or all index one) where
  next_is : drop index all ≡ one ∷ drop (index + 1) all
  next_is = drop_more all index one within ∙ ap (λ first. first ∷ drop (index + 1) all) (sym item)

  pub goes_on : {Y : Type 0} (made : Y → Z) (old new : List Y) (y : Y) → new ≡ old ++ y ∷ [] → made y ≡ wanted one → (whole : List Z)
      → map made old ++ map wanted (drop index all) ≡ whole → map made new ++ map wanted (drop (index + 1) all) ≡ whole
  goes_on made old new y added same whole before =
      let rest = map wanted (drop (index + 1) all) in
      ap (λ list. map made list ++ rest) added
      ∙ ap (λ list. list ++ rest) (map_push made old y)
      ∙ append_assoc (map made old) (made y ∷ []) rest
      ∙ ap (λ z. map made old ++ (z ∷ rest)) same
      ∙ ap (λ left. map made old ++ map wanted left) (sym next_is)
      ∙ before

  -- a fact of what is left is one of the next, and of what is left after it
  pub next_has : (Fact : Z → Type 0) → AllOf Fact (map wanted (drop index all))
      → Fact (wanted one) × AllOf Fact (map wanted (drop (index + 1) all))
  next_has Fact have = subst (λ left. AllOf Fact (map wanted left)) next_is have

pub one_more : {Y : Type 0} (Fact : Y → Type 0) (old new : List Y) (y : Y) → new ≡ old ++ y ∷ [] → AllOf Fact old → Fact y → AllOf Fact new
one_more Fact old new y added have is = subst (AllOf Fact) (sym added) (each_both Fact old (y ∷ []) have (is, tt))
