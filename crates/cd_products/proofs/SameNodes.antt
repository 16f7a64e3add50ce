-- Nodes that are each within the other hold the same.
use Rattle.std.proofs.Common.{◌≡◌, ◌++◌, inl, inr, true, [], ◌∷◌, ap, ◌∙◌, append_assoc}
use Rattle.cd_sets.specs.declared.node_id.NodeId.{NodeId}
use Rattle.cd_model.specs.BuiltIns.{built_ins}
use Rattle.cd_model.specs.Formula.{Graph, IsWithin}
use Rattle.cd_rules.specs.Needs.{question}
use Rattle.cd_verdicts.specs.Verdicts.{HasNoElement, HasNoValue}
use Rattle.cd_products.proofs.Decided.{elements_decided}
use Rattle.cd_products.proofs.MadeProducts.{values_decided}
use Rattle.cd_products.specs.Keeping.{AreValuesWithin, HoldSame}

module _ (graph : Graph) (begins : (more : Graph) × (graph ≡ built_ins ++ more)) where
  module _ (one other : NodeId) where
    pub element_within : HasNoElement graph (question (one ∷ []) (other ∷ []))
        → IsWithin graph one other
    element_within none e sort inside = elim (elements_decided graph e other sort) [
      | inl here ↦ here
      | inr outside ↦ absurd (none e sort ((inside, tt), (outside, tt)))
    ]

    pub value_within : HasNoValue graph (question (one ∷ []) (other ∷ []))
        → AreValuesWithin graph one other
    value_within none more interfaces v sound of sort inside = elim (values_decided (graph ++ more)
        (begins.0 ++ more, ap (◌++ more) begins.1 ∙ append_assoc built_ins begins.0 more) sound
        interfaces of v other sort) [
          | inl here ↦ here
          | inr outside ↦ absurd (none more interfaces v sort ((inside, tt), (outside, tt)))
        ]

pub hold_same : (graph : Graph) (one other : NodeId) → IsWithin graph one other
    → IsWithin graph other one → AreValuesWithin graph one other
    → AreValuesWithin graph other one → HoldSame graph one other
hold_same graph one other within back values values_back = record {
  elements = λ e sort. (within e sort, back e sort);
  values = λ more interfaces v sound of sort. (
    values more interfaces v sound of sort,
    values_back more interfaces v sound of sort,
  );
}
