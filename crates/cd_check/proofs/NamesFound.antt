-- A name that is seen has a node.
use Rattle.std.proofs.Common.{◌≡◌, ◌<◌, sym, subst, Bool, true, false, [], ◌∷◌, ◌||◌, length, Option, Some, None, bytes_eq, if◌then◌else◌}
use Rattle.std.proofs.lemmas.Bool.{true≢false}
use Rattle.cd_sets.specs.declared.node_id.NodeId.{NodeId}
use Rattle.cd_syntax.specs.Name.{Name}
use Rattle.cd_model.specs.Formula.{Graph}
use Rattle.cd_names.specs.ProgramFaults.{is_seen}
use Rattle.cd_check.specs.Inner.Environment.{Nodes, AreNodesOf, node_at}
use Rattle.cd_check.proofs.Decided.{same_either_way}
use Rattle.cd_check.proofs.OwnNames.{names_in}

abbrev IsNone : Option NodeId → Type 0
IsNone None = Unit {0}
IsNone (Some id) = ⊥

pub seen_has_node : (nodes : Nodes) (name : Name) → is_seen (names_in nodes) name ≡ true → node_at nodes name ≡ None → ⊥
seen_has_node [] name seen none = true≢false (sym seen)
seen_has_node (node ∷ nodes) name seen none =
    by (bytes_eq node.0 name) (same_either_way name node.0) seen none (seen_has_node nodes name)
  where
    by : (same : Bool) → bytes_eq name node.0 ≡ same → (bytes_eq name node.0 || is_seen (names_in nodes) name) ≡ true
        → (if same then Some node.1 else node_at nodes name) ≡ None
        → (is_seen (names_in nodes) name ≡ true → node_at nodes name ≡ None → ⊥) → ⊥
    by true is seen none further = subst IsNone (sym none) tt
    by false is seen none further = further (subst (λ here. (here || is_seen (names_in nodes) name) ≡ true) is seen) none

abbrev IsBelow : Graph → Option NodeId → Type 0
IsBelow graph None = Unit {0}
IsBelow graph (Some id) = id.0 < length graph

found_below : (graph : Graph) (nodes : Nodes) → AreNodesOf graph nodes → (name : Name) → IsBelow graph (node_at nodes name)
found_below graph [] are name = tt
found_below graph (node ∷ nodes) are name = by (bytes_eq node.0 name) (found_below graph nodes are.1 name)
  where
    by : (same : Bool) → IsBelow graph (node_at nodes name) → IsBelow graph (if same then Some node.1 else node_at nodes name)
    by true further = are.0
    by false further = further

pub node_below : (graph : Graph) (nodes : Nodes) → AreNodesOf graph nodes → (name : Name) (id : NodeId) → node_at nodes name ≡ Some id → id.0 < length graph
node_below graph nodes are name id is = subst (IsBelow graph) is (found_below graph nodes are name)
