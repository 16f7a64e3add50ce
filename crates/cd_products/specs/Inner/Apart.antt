-- Nodes that have nothing in common, and questions without elements.
use Rattle.std.specs.Prelude.{◌≡◌, ◌<◌, true, List, length}
use Rattle.cd_sets.specs.declared.node_id.NodeId.{NodeId}
use Rattle.cd_sets.specs.declared.question.Question.{Question}
use Rattle.cd_model.specs.AllOf.{AllOf, AnyOf}
use Rattle.cd_model.specs.Formula.{Graph, Xml, formula_at, in_node}
use Rattle.cd_model.specs.Thing.{Thing, IsElement}
use Rattle.cd_rules.specs.Members.{HasElement}

-- no element is in both nodes
abbrev pub AreApart : Graph → (one other : NodeId) → Type 0
AreApart graph one other = (e : Thing) → IsElement e → in_node graph e one true
    → in_node graph e other true → ⊥

abbrev pub HasNone : Graph → Question → Type 0
HasNone graph question = HasElement graph question → ⊥

-- the node holds XML elements alone, whose tags are in this node
abbrev pub HasTagsIn : Graph → (id tags : NodeId) → Type 0
HasTagsIn graph id tags = (tags.0 < length graph) × (attributes content : NodeId)
    × (formula_at graph id ≡ Xml tags attributes content)

-- no element is in all of these nodes
abbrev pub ShareNothing : Graph → List NodeId → Type 0
ShareNothing graph ids = (e : Thing) → IsElement e → AllOf (λ id. in_node graph e id true) ids → ⊥

-- one of these nodes has nothing in common with this one
abbrev pub OneIsApart : Graph → NodeId → List NodeId → Type 0
OneIsApart graph one = AnyOf (AreApart graph one)
