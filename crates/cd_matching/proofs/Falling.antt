-- Ways through Both and First end where each step makes a number smaller that is less than there
-- are nodes.
use Rattle.std.proofs.Common.{◌≡◌, ℕ, zero, suc, ◌<◌, List, length, inl, inr, Some, sym, arith}
use Rattle.std.proofs.Common.{subst}
use Rattle.std.proofs.lemmas.Option.{slice_get_cases}
use Rattle.std.specs.List.{slice_get}
use Rattle.cd_model.specs.AllOf.{AllOf}
use Rattle.cd_model.proofs.Ones.{each_weaker}
use Rattle.cd_matching.specs.Kernel.{KernelNode, leads_to, Ends, EachEnds}

-- a number below the length of a list names a thing of it
pub is_there : {X : Type 0} (xs : List X) (number : ℕ) → number < length xs
    → (x : X) × (slice_get xs number ≡ Some x)
is_there xs number within = elim (slice_get_cases xs number).1 [
  | inl found ↦ (found.0, found.2)
  | inr past ↦ let after = past.0 in absurd (omega (arith, after, within))
]

module _ (T : Type 0) (nodes : List (KernelNode T)) (rank : ℕ → ℕ)
    (falls : (number : ℕ) (node : KernelNode T) → slice_get nodes number ≡ Some node
    → AllOf (λ next. (rank next < rank number) × (next < length nodes)) (leads_to node))
    (there : (number : ℕ) → number < length nodes
    → (node : KernelNode T) × (slice_get nodes number ≡ Some node)) where
  ends_in : (steps number : ℕ) → rank number < steps → number < length nodes
      → Ends nodes steps number
  ends_in zero number less within = absurd (omega (arith, less))
  ends_in (suc steps) number less within = let found = there number within in
      subst (EachEnds (Ends nodes steps)) (sym found.1)
      (each_weaker (λ next. (rank next < rank number) × (next < length nodes)) (Ends nodes steps)
      (λ next lower. let lower_rank = lower.0 in
      ends_in steps next (omega (arith, lower_rank, less)) lower.1)
      (leads_to found.0) (falls number found.0 found.1))

  pub ends_by_falling : ((number : ℕ) → number < length nodes → rank number < length nodes)
      → (number : ℕ) → number < length nodes → Ends nodes (length nodes) number
  ends_by_falling short number within = ends_in (length nodes) number (short number within) within
