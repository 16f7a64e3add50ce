-- Reading, step after step: where each step has one outcome, there is one result.
use Rattle.std.proofs.Common.{◌≡◌, sym, ap, subst, ◌∙◌, inl, inr, ◌⊎◌}

-- a step ends with a result, or goes on from another state and brings something
pub data Outcome (S R X : Type 0) : Type 0 where
  Stop : R → Outcome S R X
  More : S → X → Outcome S R X

-- what is read, step after step
pub data Reads (S R X : Type 0) (Step : S → Outcome S R X → Type 0) (push : X → R → R) : S → R → Type 0 where
  stop : (s : S) (r : R) → Step s (Stop r) → Reads S R X Step push s r
  more : (s next : S) (x : X) (r : R) → Step s (More next x) → Reads S R X Step push next r → Reads S R X Step push s (push x r)

-- where each step has one outcome, all of them have one result
pub once : (S R X : Type 0) (Step : S → Outcome S R X → Type 0) (push : X → R → R) → ((s : S) (a b : Outcome S R X) → Step s a → Step s b → a ≡ b)
    → (s : S) (a b : R) → Reads S R X Step push s a → Reads S R X Step push s b → a ≡ b
once S R X Step push one _ _ _ (stop s a ends) (stop _ b also) = let same = one s (Stop a) (Stop b) ends also in cc
once S R X Step push one _ _ _ (stop s a ends) (more _ next x b goes on) = let same = one s (Stop a) (More next x) ends goes in absurd cc
once S R X Step push one _ _ _ (more s next x a goes on) (stop _ b ends) = let same = one s (More next x) (Stop b) goes ends in absurd cc
once S R X Step push one _ _ _ (more s next x a goes on) (more _ after y b also onward) =
    let same : More next x ≡ More after y = one s (More next x) (More after y) goes also in
    let next_is : next ≡ after = cc in
    let x_is : x ≡ y = cc in
    ap (λ x. push x a) x_is ∙ ap (push y) (once S R X Step push one next a b on (subst (λ s. Reads S R X Step push s b) (sym next_is) onward))

-- one of two outcomes, as something is so or is not
abbrev pub Decided : (O P : Type 0) (so else_so is : O) → Type 0
Decided O P so else_so is = (P × (is ≡ so)) ⊎ ((P → ⊥) × (is ≡ else_so))

pub decided_once : (O P : Type 0) (so else_so a b : O) → Decided O P so else_so a → Decided O P so else_so b → a ≡ b
decided_once O P so else_so a b (inl one) (inl two) = one.1 ∙ sym two.1
decided_once O P so else_so a b (inl one) (inr two) = absurd (two.0 one.0)
decided_once O P so else_so a b (inr one) (inl two) = absurd (one.0 two.0)
decided_once O P so else_so a b (inr one) (inr two) = one.1 ∙ sym two.1
