-- Where no element and no value is in one node and outside another, each that is in the one is in the other.
use Rattle.std.proofs.Common.{◌≡◌, true, false, List, [], ◌∷◌, ◌++◌, ◌⊎◌, inl, inr, refl, subst}
use Rattle.cd_sets.specs.declared.node_id.NodeId.{NodeId}
use Rattle.cd_sets.specs.declared.question.Question.{Question}
use Rattle.cd_model.specs.Thing.{Thing, IsElement}
use Rattle.cd_model.specs.BuiltIns.{built_ins}
use Rattle.cd_model.specs.Formula.{Graph}
use Rattle.cd_model.specs.Interfaces.{OfNodes}
use Rattle.cd_model.specs.Membership.{Answers, answers, value_answers, asked}
use Rattle.cd_model.proofs.DecidedAtNodes.{in_or_outside}
use Rattle.cd_rules.specs.Needs.{question}
use Rattle.cd_rules.proofs.ValuesDecided as value
use Rattle.cd_verdicts.specs.declared.verdict.Verdict.{Verdict}
use Rattle.cd_verdicts.specs.declared.verdict.Verdict.TheVariants.{Empty}
use Rattle.cd_verdicts.specs.Verdicts.{HasNoElement, HasNoValue, AreWithin, IsExact}
use Rattle.cd_empty.proofs.Growing.{grows_then}

module _ (graph : Graph) (first second : NodeId) where
  -- what is in the one node and outside the other
  abbrev difference : Question
  difference = question (first ∷ []) (second ∷ [])

  -- what is in no such question is in the second node where it is in the first
  within : (of : Answers) → of second true ⊎ of second false → (asked of difference true → ⊥) → of first true → of second true
  within of (inl inside) none is = inside
  within of (inr outside) none is = absurd (none ((is, tt), (outside, tt)))

  -- so it is where the verdict on the question is that it is empty
  module _ (table : List Thing) (one : Question) (same : one ≡ difference) (verdict : Verdict) (exact : IsExact graph table one verdict)
      (empty : verdict ≡ Empty) where
    nothing : HasNoElement graph difference × HasNoValue graph difference
    nothing = subst (λ (one : Question). IsExact graph table one Empty) same (subst (IsExact graph table one) empty exact)

    pub each_element_within : (is : Thing) → IsElement is → answers graph is first true → answers graph is second true
    each_element_within is element = within (answers graph is) (in_or_outside graph is second) (nothing.0 is element)

    pub each_value_within : (more : Graph) × (graph ≡ built_ins ++ more) → AreWithin graph first second
    each_value_within begins more arrows v sound is =
        let longer = grows_then built_ins graph (graph ++ more) begins (more, refl) in
        within (value_answers (graph ++ more) (OfNodes (graph ++ more) arrows) v)
        (value.in_or_outside (graph ++ more) longer.0 longer.1 sound arrows v second)
        (nothing.1 more (OfNodes (graph ++ more) arrows) v is)
