-- Which arrows functions of a clause can be outside.
use Rattle.std.proofs.Common.{◌≡◌, ◌<◌, ◌≤◌, ◌+◌, ℕ, List, [], ◌∷◌, ◌⊎◌, inl, inr, ◌↔◌, length}
use Rattle.std.proofs.Common.{Bool, true, false, Option, Some, None, is_some, IsTrue, take}
use Rattle.std.proofs.Common.{get_or, sym, subst, ◌∙◌}
use Rattle.std.proofs.lemmas.Bool.{true≢false}
use Rattle.cd_sets.specs.declared.node_id.NodeId.{NodeId}
use Rattle.cd_sets.specs.declared.question.Question.{Question}
use Rattle.cd_model.specs.AllOf.{AllOf}
use Rattle.cd_model.specs.Formula.{Graph}
use Rattle.cd_model.specs.Thing.{Thing}
use Rattle.cd_model.proofs.BothWays.{through}
use Rattle.cd_elements.specs.declared.shape.ElementId.{ElementId}
use Rattle.cd_rules.specs.Clauses.{Pair}
use Rattle.cd_rules.specs.Needs.{question}
use Rattle.cd_apply.specs.Inner.Found.{IsInside, SaysInside, HasOneOutside, AddsImage}
use Rattle.cd_apply.specs.Inner.Found.{IsFoundBeyond}
use Rattle.cd_apply.specs.Inner.FunctionClauses.{FunctionClause, HasFunction}
use Rattle.cd_apply.specs.Inner.Results.{IsInQuestion, IsInOne, IsResult, CanFail}
use Rattle.cd_apply.specs.Inner.Results.{CanRefuse}
use Rattle.cd_apply.proofs.FunctionsOfClauses.{has_function_exactly}
use Rattle.cd_apply.proofs.TakenThings.{taken_all, each_taken, one_taken, each_at, one_at}

module _ (graph : Graph) where
  -- what is in one of some questions and outside a node
  module _ (questions : List Question) (id : NodeId) (i : ℕ) where
    module _ (one : Question) (below : i < length questions) (is : one ≡ get_or questions i one)
      where
        pub none_further : IsInside graph one id → (HasOneOutside graph (take i questions) id → ⊥)
            → HasOneOutside graph (take (i + 1) questions) id → ⊥
        none_further inside before (e, element, outside, some) =
            by_place ((one_taken questions i one below is (λ asking. IsInQuestion graph asking e)).0
            some)
          where
            by_place : IsInOne graph (take i questions) e ⊎ IsInQuestion graph one e → ⊥
            by_place (inl first) = before (e, element, outside, first)
            by_place (inr last) = inside e element last outside

        pub one_outside : SaysInside graph one id false → HasOneOutside graph questions id
        one_outside (e, element, asking, outside) = (
          e,
          element,
          outside,
          one_at (λ asking. IsInQuestion graph asking e) questions i one below is asking,
        )

  -- in a world with the same graph
  module _ (other : Graph) (same : other ≡ graph) (one : Question) (id : NodeId) where
    pub inside_by : (b : Bool) → SaysInside other one id b → b ≡ true → IsInside graph one id
    inside_by true says answer = subst (λ (g : Graph). IsInside g one id) same says
    inside_by false says answer = absurd (true≢false (sym answer))

    pub outside_by : (b : Bool) → SaysInside other one id b → b ≡ false
        → SaysInside graph one id false
    outside_by true says answer = absurd (true≢false answer)
    outside_by false says answer = subst (λ (g : Graph). SaysInside g one id false) same says

  -- where no function of the wanted arrows fails at an argument of the refused one, these have
  -- results for all of them
  pub refuses_exactly : (wanted : List Pair) (refused : Pair) (questions : List Question)
      → (CanFail graph wanted refused → ⊥)
      → AddsImage graph (question (refused.0 ∷ []) []) wanted [] questions
      → HasOneOutside graph questions refused.1 ↔ CanRefuse graph wanted refused
  refuses_exactly wanted refused questions total adds = (
    λ (e, element, outside, some). inr (e, element, outside, result e ((adds e).0 some)),
    λ can. by_way can,
  )
    where
      result : (e : Thing)
          → IsInOne graph [] e ⊎ IsResult graph (question (refused.0 ∷ []) []) wanted e
          → IsResult graph (question (refused.0 ∷ []) []) wanted e
      result e (inl none) = absurd none
      result e (inr is) = is

      by_way : CanRefuse graph wanted refused → HasOneOutside graph questions refused.1
      by_way (inl fails) = absurd (total fails)
      by_way (inr (e, element, outside, is)) = (e, element, outside, (adds e).1 (inr is))

  -- as it is found
  pub refused_as_found : (wanted : List Pair) (refused : Pair) (table : List Thing)
      (found : Option ElementId) → IsFoundBeyond graph table refused.0 wanted found
      → is_some found ≡ false → (first : Graph) → first ≡ graph → (before after : List Question)
      → before ≡ [] → AddsImage first (question (refused.0 ∷ []) []) wanted before after
      → (second : Graph) → second ≡ first → (shown : List Question) → shown ≡ after → (has : Bool)
      → IsTrue has ↔ HasOneOutside second shown refused.1
      → IsTrue has ↔ CanRefuse graph wanted refused
  refused_as_found wanted refused table (Some id) beyond none first one before after empty adds
      second two shown same has says = absurd (true≢false none)
  refused_as_found wanted refused table None beyond none first one before after empty adds second
      two shown same has says = through
      (subst (λ (all : List Question). IsTrue has ↔ HasOneOutside graph all refused.1) same
      (subst (λ (g : Graph). IsTrue has ↔ HasOneOutside g shown refused.1) (two ∙ one) says))
      (refuses_exactly wanted refused after
      (λ (from, is, inside, out). beyond from is inside out)
      (subst (λ (old : List Question).
      AddsImage graph (question (refused.0 ∷ []) []) wanted old after) empty
      (subst (λ (g : Graph). AddsImage g (question (refused.0 ∷ []) []) wanted before after) one
      adds)))

  -- of a clause whose refused arrows are gone over
  module _ (clause : FunctionClause) (shown : List Pair) (same : shown ≡ clause.refused) (i : ℕ)
    where
      pub has_function : length shown ≤ i
          → AllOf (CanRefuse graph clause.wanted) (take i shown) → HasFunction graph clause
      has_function past each = (has_function_exactly graph clause).1
          (subst (AllOf (CanRefuse graph clause.wanted)) (taken_all shown i past ∙ same) each)

      module _ (refused : Pair) (below : i < length shown) (is : refused ≡ get_or shown i refused)
          (wanted : List Pair) (wants : wanted ≡ clause.wanted) (other : Graph)
          (kept : other ≡ graph) (b : Bool) (says : IsTrue b ↔ CanRefuse other wanted refused) where
        says_here : IsTrue b ↔ CanRefuse graph clause.wanted refused
        says_here = subst (λ (g : Graph). IsTrue b ↔ CanRefuse g clause.wanted refused) kept
            (subst (λ (all : List Pair). IsTrue b ↔ CanRefuse other all refused) wants says)

        pub refused_further : b ≡ true → AllOf (CanRefuse graph clause.wanted) (take i shown)
            → AllOf (CanRefuse graph clause.wanted) (take (i + 1) shown)
        refused_further can each =
            (each_taken shown i refused below is (CanRefuse graph clause.wanted)).1
            (each, says_here.0 can)

        pub has_no_function : b ≡ false → HasFunction graph clause → ⊥
        has_no_function cannot has = true≢false (sym (says_here.1
            (each_at (CanRefuse graph clause.wanted) shown i refused below is
            (subst (AllOf (CanRefuse graph clause.wanted)) (sym same)
            ((has_function_exactly graph clause).0 has)))) ∙ cannot)
