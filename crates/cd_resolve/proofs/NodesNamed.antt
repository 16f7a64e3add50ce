-- What the nodes of declared names are: those of a list of names, each of which stands for its type or is not declared.
use Rattle.std.proofs.Common.{◌≡◌, ℕ, ◌<◌, ◌≤◌, List, [], ◌∷◌, ◌++◌, Option, Some, None, length, refl, sym, subst}
use Rattle.cd_sets.specs.declared.node_id.NodeId.{NodeId}
use Rattle.cd_syntax.specs.Name.{Name}
use Rattle.cd_syntax.specs.TypeTree.{Tree, Declarations}
use Rattle.cd_model.specs.AllOf.{AllOf}
use Rattle.cd_model.specs.Formula.{Graph, IsGraph}
use Rattle.cd_model.specs.Guarded.{IsGuarded}
use Rattle.cd_model.specs.Interfaces.{admits}
use Rattle.cd_model.specs.Scope.{names_over, tree_in}
use Rattle.cd_model.specs.StandsFor.{StandsFor}
use Rattle.cd_model.proofs.BothWays.{through}
use Rattle.cd_model.proofs.NamesAlike.{enough_for_elements, enough_for_values}
use Rattle.cd_model.proofs.StandsKept.{stands_kept}
use Rattle.cd_resolve.specs.Inner.Names as list
use Rattle.cd_resolve.specs.Inner.Names.{numbered, AreBelow}
use Rattle.cd_resolve.specs.Named.{Names, AreNamed, IsNamed, type_named}
use Rattle.cd_resolve.proofs.KnownNames.{IsGiven}
use Rattle.cd_resolve.proofs.Numbered.{numbered_at}

abbrev pub list_of : Names → List (Name × NodeId)
list_of names = numbered names.first names.declarations

-- names with nodes that follow one another, as a list of pairs
pub of_list : (graph : Graph) (declarations : Declarations) (first : ℕ)
    → list.AreNamed graph declarations (numbered first declarations)
    → AreNamed graph (record { declarations = declarations; first = first })
of_list graph declarations first named = record {
  each = λ name. subst (IsNamed graph declarations name (tree_in declarations name))
      (numbered_at first declarations name) (named name);
}

pub in_list : (graph : Graph) (names : Names) → AreNamed graph names
    → list.AreNamed graph names.declarations (list_of names)
in_list graph names named name =
    subst (IsNamed graph names.declarations name (tree_in names.declarations name))
    (sym (numbered_at names.first names.declarations name)) (named.each name)

-- each name is given a node in each longer graph, or no list declares it
module _ (old : Graph) (sound : IsGraph old) (names : Names)
    (guarded : AllOf IsGuarded (names_over (names.declarations ∷ []))) (named : AreNamed old names)
    (count : ℕ) (fits : length (names_over (names.declarations ∷ [])) ≤ count) (more : Graph) where
  abbrev declarations : Declarations
  declarations = names.declarations

  answers_as : (id : NodeId) (name : Name) → StandsFor (old ++ more) id (type_named declarations name)
      → IsGiven (old ++ more) count (declarations ∷ []) name (Some id)
  answers_as id name stands = record {
    elements = λ e element answer. through (stands.elements e answer element)
        (enough_for_elements (type_named declarations name) guarded count e answer fits);
    values = λ interfaces v value answer. through (stands.values interfaces v answer value)
        (enough_for_values (type_named declarations name) guarded (admits interfaces) count v answer fits);
  }

  pub all_given : (name : Name)
      → IsGiven (old ++ more) count (declarations ∷ []) name (list.node_of (list_of names) name)
  all_given name =
      by_node (tree_in declarations name) (list.node_of (list_of names) name) refl (in_list old names named name)
    where
      by_node : (is : Option Tree) (id : Option NodeId) → tree_in declarations name ≡ is
          → IsNamed old declarations name is id → IsGiven (old ++ more) count (declarations ∷ []) name id
      by_node None None undeclared stands = rw undeclared refl
      by_node (Some is) (Some id) declared stands =
          answers_as id name (stands_kept old more id (type_named declarations name) sound stands)
      by_node None (Some id) undeclared stands = elim stands [ ]
      by_node (Some is) None declared stands = elim stands [ ]

-- nodes that stand for types are nodes of the graph
pub named_below : (graph : Graph) (declarations : Declarations) (names : List (Name × NodeId))
    → list.AreNamed graph declarations names → AreBelow (length graph) names
named_below graph declarations names named name id there =
    by_tree (tree_in declarations name)
    (subst (IsNamed graph declarations name (tree_in declarations name)) there (named name))
  where
    by_tree : (is : Option Tree) → IsNamed graph declarations name is (Some id) → id.0 < length graph
    by_tree None is = elim is [ ]
    by_tree (Some type) is = is.is_node

pub nodes_below : (graph : Graph) (names : Names) → AreNamed graph names → AreBelow (length graph) (list_of names)
nodes_below graph names named =
    named_below graph names.declarations (list_of names) (in_list graph names named)
