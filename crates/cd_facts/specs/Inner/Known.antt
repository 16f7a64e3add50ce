-- What is known of an element and a node.
use Rattle.std.specs.Prelude.{◌≡◌, ◌&&◌, Bool, List, Option, Some, nat_eq}
use Rattle.std.specs.Map.{lookup}
use Rattle.cd_sets.specs.declared.node_id.NodeId.{NodeId}
use Rattle.cd_model.specs.Thing.{Thing}
use Rattle.cd_model.specs.Formula.{Graph}
use Rattle.cd_model.specs.Membership.{answers}
use Rattle.cd_elements.specs.declared.shape.ElementId.{ElementId}
use Rattle.cd_elements.specs.Table.{element_at}
use Rattle.cd_facts.specs.declared.membership.Membership.{Membership}
use Rattle.cd_facts.specs.Facts.{Fact}

-- whether the membership is that of the element in the node
abbrev pub is_of : ElementId → NodeId → Membership → Bool
is_of id node other = nat_eq id.0 other.id.0 && nat_eq node.0 other.node.0

-- what the first fact of an element and a node says
abbrev pub known : List Fact → ElementId → NodeId → Option Bool
known facts id node = lookup (is_of id node) facts

-- what is known is right
abbrev pub IsKnowledge : Graph → List Thing → (ElementId → NodeId → Option Bool) → Type 0
IsKnowledge graph table known = (id : ElementId) (node : NodeId) (answer : Bool)
    → known id node ≡ Some answer → answers graph (element_at table id) node answer
