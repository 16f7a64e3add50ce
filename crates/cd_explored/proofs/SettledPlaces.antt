-- Places whose questions are decided have the steps of their nodes, or none; and so have those at
-- nodes with products.
use Rattle.std.proofs.Common.{◌≡◌, ◌<◌, ◌++◌, ◌⊎◌, inl, inr, ℕ, true, false, List, [], ◌∷◌, length, Option, Some}
use Rattle.std.proofs.Common.{refl, sym, subst, ◌∙◌, ap, get_or}
use Rattle.std.proofs.lemmas.List.{length-map}
use Rattle.std.proofs.lemmas.Option.{slice_get_read, slice_get-map}
use Rattle.std.specs.List.{slice_get}
use Rattle.std.specs.Option.{option_map}
use Rattle.cd_sets.specs.declared.node_id.NodeId.{NodeId}
use Rattle.cd_sets.specs.declared.question.Question.{Question}
use Rattle.cd_model.specs.Formula.{Graph, in_node}
use Rattle.cd_model.specs.Interfaces.{value_in_node}
use Rattle.cd_model.specs.Thing.{Thing, Pair, Xml, IsElement, IsValue}
use Rattle.cd_matching.specs.Kernel as kinds
use Rattle.cd_matching.specs.Kernel.{Kernel, KernelNode}
use Rattle.cd_matching.specs.PlainKernel.{plain_node, plain_nodes}
use Rattle.cd_matching.specs.declared.kernel.KernelNode.{KernelNode as CodeNode}
use Rattle.cd_elements.specs.Table.{element_at}
use Rattle.cd_elements.specs.declared.shape.ElementId.{ElementId}
use Rattle.cd_verdicts.specs.Verdicts.{IsExact}
use Rattle.cd_verdicts.specs.declared.verdict.Verdict.{Verdict}
use Rattle.cd_verdicts.specs.declared.verdict.Verdict.TheVariants.{Empty, Inhabited}
use Rattle.cd_products.specs.Products.{AreProducts, AreTriples}
use Rattle.cd_products.specs.QuestionBoxes.{IsInhabited}
use Rattle.cd_filter.specs.Accepting.{place_of}
use Rattle.cd_filter.specs.Capturing.{AreSteps}
use Rattle.cd_filter.specs.Table.{Place, Step, pair_steps, gather_steps, triple_steps}
use Rattle.cd_explored.specs.Inner.Exploring.{AreSettling}
use Rattle.cd_explored.specs.Inner.NodeSteps.{AreNodeSteps, HasProducts}

-- the node with a number
pub node_there : (nodes : List CodeNode) (number : ℕ) (node : CodeNode)
    → number < length (plain_nodes nodes) → node ≡ get_or nodes number node
    → slice_get (plain_nodes nodes) number ≡ Some (plain_node node)
node_there nodes number node below is = slice_get-map plain_node nodes number
    ∙ ap (option_map plain_node)
    (slice_get_read nodes (length (plain_nodes nodes)) number node (length-map nodes plain_node)
    below is)

module _ (graph : Graph) (kernel : Kernel NodeId) (first : ℕ) (place : Place) (table : List Thing)
    (verdict : Verdict) (exact : IsExact graph table place.question verdict) where
  pub settled_empty : verdict ≡ Empty → AreSettling graph kernel first place []
  settled_empty is = let none = subst (IsExact graph table place.question) is exact in record {
    settled = record {
      elements = inr (λ has. none.0 has.0 has.1 has.2, refl);
      inhabited = inr refl;
      values = λ more interfaces sound arrows.
          inr (λ has. none.1 more interfaces has.0 has.1 has.2, refl);
    };
    in_range = tt;
  }

  pub settled_inhabited : (id : ElementId) → verdict ≡ Inhabited id → (node : KernelNode NodeId)
      → slice_get kernel.nodes place.number ≡ Some node → (steps : List Step)
      → AreNodeSteps graph kernel.nodes first place.question node steps
      → AreSettling graph kernel first place steps
  settled_inhabited id is node there steps are =
      let some = subst (IsExact graph table place.question) is exact in record {
        settled = record {
          elements = inl (subst (λ (found : Option (KernelNode NodeId)).
              AreSteps (in_node graph) IsElement true (place_of kernel.nodes first)
              place.question found steps) (sym there) are.elements);
          inhabited = inl (element_at table id, some.1, some.2);
          values = λ more interfaces sound arrows. inl (subst
              (λ (found : Option (KernelNode NodeId)).
              AreSteps (value_in_node (graph ++ more) interfaces) IsValue false
              (place_of kernel.nodes first) place.question found steps) (sym there)
              (are.values more interfaces sound arrows));
        };
        in_range = are.in_range;
      }

-- of products there are some just where the question has an element
module _ (graph : Graph) (kernel : Kernel NodeId) (first : ℕ) (question : Question) where
  by_pairs : (products : List (Question × Question))
      → AreProducts (in_node graph) IsElement question products
      → IsInhabited (in_node graph) IsElement question ⊎ (products ≡ [])
  by_pairs [] are = inr refl
  by_pairs (product ∷ products) are =
      let one = are.inhabited.0.0 in
      let other = are.inhabited.0.1 in
      inl (
        Pair one.0 other.0,
        (one.1, other.1),
        are.only one.0 other.0 (one.1, other.1) (inl (one.2, other.2)),
      )

  by_triples : (triples : List (Question × Question × Question))
      → AreTriples (in_node graph) IsElement question triples
      → IsInhabited (in_node graph) IsElement question ⊎ (triples ≡ [])
  by_triples [] are = inr refl
  by_triples (triple ∷ triples) are =
      let tag = are.inhabited.0.0 in
      let attributes = are.inhabited.0.1 in
      let content = are.inhabited.0.2 in
      let made = are.makes tag.0 attributes.0 content.0 tag.1 attributes.1 content.1
      (inl (tag.2, attributes.2, content.2)) in
      inl (Xml tag.0 attributes.0 content.0, made.0, made.1)

  inhabited_or_none : (node : KernelNode NodeId) → HasProducts node → (steps : List Step)
      → AreNodeSteps graph kernel.nodes first question node steps
      → IsInhabited (in_node graph) IsElement question ⊎ (steps ≡ [])
  inhabited_or_none (kinds.Pair p q) has steps are =
      let products = are.elements in elim (by_pairs products.0 products.1) [
        | inl some ↦ inl some
        | inr none ↦ inr (products.2 ∙ ap (pair_steps p q) none)
      ]
  inhabited_or_none (kinds.Gather variable p q) has steps are =
      let products = are.elements in elim (by_pairs products.0 products.1) [
        | inl some ↦ inl some
        | inr none ↦ inr (products.2 ∙ ap (gather_steps variable p q) none)
      ]
  inhabited_or_none (kinds.Xml tag attributes content) has steps are =
      let triples = are.elements in elim (by_triples triples.0 triples.1) [
        | inl some ↦ inl some
        | inr none ↦ inr (triples.2 ∙ ap (triple_steps tag attributes content) none)
      ]
  inhabited_or_none _ has steps are = absurd has

-- so a place at a node with products is settled by its steps
pub settled_by_products : (graph : Graph) (kernel : Kernel NodeId) (first : ℕ) (place : Place)
    (node : KernelNode NodeId) → slice_get kernel.nodes place.number ≡ Some node
    → HasProducts node → (steps : List Step)
    → AreNodeSteps graph kernel.nodes first place.question node steps
    → AreSettling graph kernel first place steps
settled_by_products graph kernel first place node there has steps are = record {
  settled = record {
    elements = inl (subst (λ (found : Option (KernelNode NodeId)).
        AreSteps (in_node graph) IsElement true (place_of kernel.nodes first)
        place.question found steps) (sym there) are.elements);
    inhabited = inhabited_or_none graph kernel first place.question node has steps are;
    values = λ more interfaces sound arrows. inl (subst
        (λ (found : Option (KernelNode NodeId)).
        AreSteps (value_in_node (graph ++ more) interfaces) IsValue false
        (place_of kernel.nodes first) place.question found steps) (sym there)
        (are.values more interfaces sound arrows));
  };
  in_range = are.in_range;
}
