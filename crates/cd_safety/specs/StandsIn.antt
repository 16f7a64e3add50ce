-- An element in the place of a value: each closure is replaced by a function element that is in the
-- same nodes of a graph.
use Rattle.std.specs.Prelude.{◌↔◌, ℤ, ℕ, Bool}
use Rattle.cd_sets.specs.declared.node_id.NodeId.{NodeId}
use Rattle.cd_syntax.specs.Name.{Name}
use Rattle.cd_model.specs.Formula.{Graph, in_node}
use Rattle.cd_model.specs.Interfaces.{Interfaces, value_in_node}
use Rattle.cd_model.specs.Thing as thing
use Rattle.cd_model.specs.Thing.{Thing, Fields, NoField, Field, Pairs, IsElement}

-- the element answers as the value does at each node
abbrev pub Agrees : Graph → Interfaces → (v e : Thing) → Type 0
Agrees graph interfaces v e = (id : NodeId) (answer : Bool)
    → value_in_node graph interfaces v id answer ↔ in_node graph e id answer

mutual
  pub data StandsIn (graph : Graph) (interfaces : Interfaces) : (v e : Thing) → Type 0 where
    integer : (n : ℤ) → StandsIn graph interfaces (thing.Integer n) (thing.Integer n)
    character : (c : ℕ) → StandsIn graph interfaces (thing.Character c) (thing.Character c)
    atom : (name : Name) → StandsIn graph interfaces (thing.Atom name) (thing.Atom name)
    pair : (v w d e : Thing) → StandsIn graph interfaces v d → StandsIn graph interfaces w e
        → StandsIn graph interfaces (thing.Pair v w) (thing.Pair d e)
    xml : (tag attributes content d e last : Thing) → StandsIn graph interfaces tag d
        → StandsIn graph interfaces attributes e → StandsIn graph interfaces content last
        → StandsIn graph interfaces (thing.Xml tag attributes content) (thing.Xml d e last)
    of_fields : (fields others : Fields) → FieldsStandIn graph interfaces fields others
        → StandsIn graph interfaces (thing.Record fields) (thing.Record others)
    closure : (function : ℕ) (environment : Fields) (pairs : Pairs)
        → Agrees graph interfaces (thing.Closure function environment) (thing.Function pairs)
        → StandsIn graph interfaces (thing.Closure function environment) (thing.Function pairs)

  -- the labels stay
  pub data FieldsStandIn (graph : Graph) (interfaces : Interfaces) : (fields others : Fields)
      → Type 0 where
    no_field : FieldsStandIn graph interfaces NoField NoField
    field : (label : Name) (v e : Thing) (rest others : Fields) → StandsIn graph interfaces v e
        → FieldsStandIn graph interfaces rest others
        → FieldsStandIn graph interfaces (Field label v rest) (Field label e others)

pub record HasStandIn (graph : Graph) (interfaces : Interfaces) (v : Thing) : Type 0 where
  pub e : Thing
  pub is_element : IsElement e
  pub stands : StandsIn graph interfaces v e
