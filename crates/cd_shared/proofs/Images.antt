-- Nodes of one class hold the same, each in one of two graphs with the same formulas but for the
-- classes of the nodes in them.
use Rattle.std.proofs.Common.{◌≡◌, ◌<◌, Bool, List, ◌++◌, map, length, ◌↔◌, refl, sym, ap, subst}
use Rattle.std.proofs.Common.{◌∙◌}
use Rattle.std.proofs.lemmas.List.{map-append}
use Rattle.cd_sets.specs.declared.node_id.NodeId.{NodeId}
use Rattle.cd_model.specs.BuiltIns.{built_ins}
use Rattle.cd_model.specs.Formula.{Graph, Formula, nodes, in_node, formula_at}
use Rattle.cd_model.specs.Interfaces.{Interfaces, admits, value_in_node}
use Rattle.cd_model.specs.StandsFor.{StandsFor}
use Rattle.cd_model.specs.Thing.{Thing}
use Rattle.cd_model.specs.Types.{reader}
use Rattle.cd_model.specs.Written.{Written}
use Rattle.cd_model.proofs.BothWays.{itself, turned, through}
use Rattle.cd_model.proofs.FormulasAlike.{FormulasStand, formulas_alike}
use Rattle.cd_model.proofs.ValuesAlike.{AlwaysAlike, elements_alike, values_alike}
use Rattle.cd_shared.specs.Shared.{renamed_formula, IsImage}
use Rattle.cd_shared.proofs.FormulasStand.{OfOneClass, formula_stands}
use Rattle.cd_shared.proofs.Renaming.{at_renamed, graph_again}

module _ (class : NodeId → NodeId) where
  abbrev classes_in : Graph → Graph
  classes_in graph = map (renamed_formula class) graph

  -- a node and its class have one formula, but for classes
  abbrev AreAlike : Graph → Type 0
  AreAlike graph = (id : NodeId) → renamed_formula class (formula_at graph (class id))
      ≡ renamed_formula class (formula_at graph id)

  -- a graph is compared with the one in which all nodes are classes
  module _ (once : (id : NodeId) → class (class id) ≡ class id) (graph : Graph)
      (alike : AreAlike graph) where
    formulas_stand : (one other : NodeId) → class one ≡ class other
        → FormulasStand (OfOneClass class once) (formula_at graph one)
        (formula_at (classes_in graph) other)
    formulas_stand one other same =
        subst (FormulasStand (OfOneClass class once) (formula_at graph one))
        (sym (alike one)
        ∙ ap (λ (id : NodeId). renamed_formula class (formula_at graph id)) same
        ∙ alike other ∙ sym (at_renamed class graph other))
        (formula_stands class once (formula_at graph one))

    nodes_alike : AlwaysAlike (OfOneClass class once) (nodes graph) (nodes (classes_in graph))
    nodes_alike closed closing e of reads one other same answer =
        formulas_alike (OfOneClass class once) (reader (nodes graph) closed e)
        (reader (nodes (classes_in graph)) closing e) reads (formula_at graph one)
        (formula_at (classes_in graph) other) (formulas_stand one other same) answer

    elements_so : (e : Thing) (one other : NodeId) (answer : Bool) → class one ≡ class other
        → in_node graph e one answer ↔ in_node (classes_in graph) e other answer
    elements_so e one other answer same = elements_alike (OfOneClass class once) (nodes graph)
        (nodes (classes_in graph)) nodes_alike e one other same answer

    values_so : (interfaces : Interfaces) (v : Thing) (one other : NodeId) (answer : Bool)
        → class one ≡ class other
        → value_in_node graph interfaces v one answer
        ↔ value_in_node (classes_in graph) interfaces v other answer
    values_so interfaces v one other answer same = values_alike (OfOneClass class once)
        (nodes graph) (nodes (classes_in graph)) nodes_alike (admits interfaces) (admits interfaces)
        (λ function pairs sound. itself) v one other same answer

  module _ (graph image : Graph) (is : IsImage class graph image) where
    image_alike : AreAlike image
    image_alike id = same (class id) ∙ is.alike id ∙ sym (same id)
      where
        same : (id : NodeId) → renamed_formula class (formula_at image id)
            ≡ renamed_formula class (formula_at graph id)
        same id = sym (at_renamed class image id)
            ∙ ap (λ (graph : Graph). formula_at graph id) is.renamed
            ∙ at_renamed class graph id

    pub elements : (e : Thing) (one other : NodeId) (answer : Bool) → class one ≡ class other
        → in_node graph e one answer ↔ in_node image e other answer
    elements e one other answer same = through
        (elements_so is.once graph is.alike e one other answer same)
        (turned (subst (λ (classes : Graph).
        in_node image e other answer ↔ in_node classes e other answer) is.renamed
        (elements_so is.once image image_alike e other other answer refl)))

    pub values : (interfaces : Interfaces) (v : Thing) (one other : NodeId) (answer : Bool)
        → class one ≡ class other
        → value_in_node graph interfaces v one answer
        ↔ value_in_node image interfaces v other answer
    values interfaces v one other answer same = through
        (values_so is.once graph is.alike interfaces v one other answer same)
        (turned (subst (λ (classes : Graph). value_in_node image interfaces v other answer
        ↔ value_in_node classes interfaces v other answer) is.renamed
        (values_so is.once image image_alike interfaces v other other answer refl)))

    pub stand : (one other : NodeId) (type : Written) → class one ≡ class other
        → other.0 < length image → ((more : Graph) × (image ≡ built_ins ++ more))
        → StandsFor graph one type → StandsFor image other type
    stand one other type same below begins stands = record {
      is_node = below;
      begins = begins;
      elements = λ e answer sound. through (turned (elements e one other answer same))
          (stands.elements e answer sound);
      values = λ interfaces v answer sound. through
          (turned (values interfaces v one other answer same))
          (stands.values interfaces v answer sound);
    }

  -- the formulas after a graph may have classes in them
  pub image_after : (once : (id : NodeId) → class (class id) ≡ class id)
      (before formulas : List Formula) → AreAlike (before ++ formulas)
      → IsImage class (before ++ formulas) (before ++ map (renamed_formula class) formulas)
  image_after once before formulas alike = record {
    once = once;
    renamed = map-append (renamed_formula class) before (map (renamed_formula class) formulas)
        ∙ ap (λ (rest : List Formula). classes_in before ++ rest) (graph_again class once formulas)
        ∙ sym (map-append (renamed_formula class) before formulas);
    alike = alike;
  }

-- where each node is a class of its own, a graph is its image
pub image_itself : (class : NodeId → NodeId) (graph : Graph) → ((id : NodeId) → class id ≡ id)
    → IsImage class graph graph
image_itself class graph own = record {
  once = λ id. own (class id);
  renamed = refl;
  alike = λ id. ap (λ (id : NodeId). renamed_formula class (formula_at graph id)) (own id);
}
