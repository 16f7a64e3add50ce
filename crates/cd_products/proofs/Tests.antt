-- Each graph has a right test of boxes, and two right tests agree.
use Rattle.std.proofs.Common.{◌≡◌, Bool, true, false, List, [], ◌∷◌, ◌++◌, ◌⊎◌, inl, inr, refl}
use Rattle.cd_sets.specs.declared.question.Question.{Question}
use Rattle.cd_model.specs.AllOf.{AllOf, AnyOf}
use Rattle.cd_model.specs.BuiltIns.{built_ins}
use Rattle.cd_model.specs.Formula.{Graph, IsGraph}
use Rattle.cd_rules.specs.Members.{HasElement}
use Rattle.cd_rules.proofs.EachQuestion.{has_or_not}
use Rattle.cd_products.specs.Inner.Tests.{IsTested}

abbrev HasNone : Graph → Question → Type 0
HasNone graph question = HasElement graph question → ⊥

-- one with none and each with one cannot be
both_ways : (graph : Graph) (box : List Question) → AllOf (HasElement graph) box
    → AnyOf (HasNone graph) box → ⊥
both_ways graph [] each one = one
both_ways graph (question ∷ box) each (inl here) = here each.0
both_ways graph (question ∷ box) each (inr later) = both_ways graph box each.1 later

pub tests_agree : (graph : Graph) (box : List Question) (one other : Bool)
    → IsTested graph box one → IsTested graph box other → one ≡ other
tests_agree graph box true true is too = refl
tests_agree graph box false false is too = refl
tests_agree graph box true false is too = absurd (both_ways graph box is too)
tests_agree graph box false true is too = absurd (both_ways graph box too is)

module _ (graph more : Graph) (begins : graph ≡ built_ins ++ more) (sound : IsGraph graph) where
  tested : (box : List Question) → (b : Bool) × IsTested graph box b
  tested [] = (true, tt)
  tested (question ∷ box) = by_first (has_or_not graph more begins sound question) (tested box)
    where
      by_rest : HasElement graph question → (rest : (b : Bool) × IsTested graph box b)
          → (b : Bool) × IsTested graph (question ∷ box) b
      by_rest has (true, each) = (true, (has, each))
      by_rest has (false, one) = (false, inr one)

      by_first : HasElement graph question ⊎ HasNone graph question
          → ((b : Bool) × IsTested graph box b) → (b : Bool) × IsTested graph (question ∷ box) b
      by_first (inl has) rest = by_rest has rest
      by_first (inr none) rest = (false, inl none)

  -- the test of any box
  pub right_test : (test : List Question → Bool)
      × ((box : List Question) → IsTested graph box (test box))
  right_test = (λ box. (tested box).0, λ box. (tested box).1)
