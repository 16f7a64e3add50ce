-- The node of all sequences of items: one that is put in, or that of texts.
use Rattle.std.proofs.Common.{◌≡◌, ◌↔◌, ◌<◌, ◌+◌, ◌++◌, true, [], ◌∷◌, length, refl, sym, ap}
use Rattle.std.proofs.Common.{subst}
use Rattle.std.proofs.Common.{◌∙◌, arith}
use Rattle.cd_sets.specs.declared.node_id.NodeId.{NodeId}
use Rattle.cd_model.specs.AllOf.{AllOf}
use Rattle.cd_model.specs.BuiltIns.{built_ins, node, NIL, CHAR, STRING}
use Rattle.cd_model.specs.Formula.{Graph, Formula, IsGraph, IsFormula, IsIn, formula_at}
use Rattle.cd_model.specs.Thing.{Thing, IsElement}
use Rattle.cd_model.proofs.BothWays.{itself, turned}
use Rattle.cd_model.proofs.Extending.{kept_elements}
use Rattle.cd_matching.proofs.NilIsElement.{nil_is_element}
use Rattle.cd_meaning.specs.Sequences.{IsListOf}
use Rattle.cd_meaning.specs.Sets.{◌⊆◌, elements_of}
use Rattle.cd_forms.specs.Inner.ListFormulas.{nil_formula, list_formula}
use Rattle.cd_forms.proofs.ListNodes.{in_list, list_is_in}
use Rattle.cd_forms.proofs.FormulasInLongerGraphs.{formula_last}

-- a node is its number
pub same_node : (id : NodeId) (other : NodeId) → id.0 ≡ other.0 → id ≡ other
same_node id other same = λ i. record { 0 = same i }

module _ (graph : Graph) (begins : (more : Graph) × (graph ≡ built_ins ++ more)) where
  pub nil_formula_at : formula_at graph NIL ≡ nil_formula
  nil_formula_at = subst (λ (g : Graph). formula_at g NIL ≡ nil_formula) (sym begins.1) refl

  string_formula_at : formula_at graph STRING ≡ list_formula CHAR STRING
  string_formula_at =
      subst (λ (g : Graph). formula_at g STRING ≡ list_formula CHAR STRING) (sym begins.1) refl

  -- texts are the sequences of characters
  module _ (item : NodeId) (is : item.0 ≡ CHAR.0) where
    holds_characters : (e : Thing) → IsElement e
        → IsIn graph e CHAR ↔ elements_of graph item e
    holds_characters e element = subst (λ (id : NodeId). IsIn graph e CHAR ↔ IsIn graph e id)
        (sym (same_node item CHAR is)) itself

    pub texts_in : IsListOf (elements_of graph item) ⊆ elements_of graph STRING
    texts_in = list_is_in graph CHAR STRING (elements_of graph item) string_formula_at
        holds_characters

    pub only_texts : elements_of graph STRING ⊆ IsListOf (elements_of graph item)
    only_texts = in_list graph CHAR STRING (elements_of graph item) string_formula_at
        holds_characters

-- a node that is put in
module _ (graph : Graph) (sound : IsGraph graph) (item : NodeId) (below : item.0 < length graph)
  where
    abbrev pub new_list : Formula
    new_list = list_formula item (node (length graph))

    pub list_sound : AllOf (IsFormula (length graph + 1)) (new_list ∷ [])
    list_sound = (((omega (arith, below), omega arith), ((nil_is_element, tt), tt)), tt)

    module _ (id : NodeId) (is : id.0 ≡ length graph) where
      abbrev whole : Graph
      whole = graph ++ new_list ∷ []

      formula_is : formula_at whole id ≡ list_formula item id
      formula_is = formula_last graph new_list id is
          ∙ ap (list_formula item) (same_node (node (length graph)) id (sym is))

      holds_items : (e : Thing) → IsElement e → IsIn whole e item ↔ elements_of graph item e
      holds_items e element = turned (kept_elements graph (new_list ∷ []) sound e item true below)

      pub lists_in : IsListOf (elements_of graph item) ⊆ elements_of whole id
      lists_in = list_is_in whole item id (elements_of graph item) formula_is holds_items

      pub only_lists : elements_of whole id ⊆ IsListOf (elements_of graph item)
      only_lists = in_list whole item id (elements_of graph item) formula_is holds_items
