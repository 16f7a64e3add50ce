-- When a pattern takes a thing with some captures, where types are known by what things answer; and
-- when a pattern over the nodes of a graph stands for a written one.
use Rattle.std.specs.Prelude.{◌≡◌, ◌↔◌, Bool, Option}
use Rattle.cd_sets.specs.declared.node_id.NodeId.{NodeId}
use Rattle.cd_syntax.specs.Name.{Name}
use Rattle.cd_syntax.specs.TypeTree.{Tree}
use Rattle.cd_model.specs.Formula.{Graph, in_node}
use Rattle.cd_model.specs.Interfaces.{Interfaces, value_in_node, value_in_written}
use Rattle.cd_model.specs.Scope.{Scope}
use Rattle.cd_model.specs.StandsFor.{StandsFor}
use Rattle.cd_model.specs.Thing.{Thing, IsElement, IsValue}
use Rattle.cd_model.specs.Written.{in_written}
use Rattle.cd_matching.specs.Captures.{Captures}
use Rattle.cd_matching.specs.Naming.{IsNamed}
use Rattle.cd_matching.specs.Pattern.{Pattern}
use Rattle.cd_matching.specs.PatternsAlike.{Alike}
use Rattle.cd_matching.specs.Take.{take}
use Rattle.cd_matching.specs.WrittenPattern.{pattern_of}

-- what things of a sort answer at types
abbrev pub Answering : Type 0 → Type 1
Answering T = Thing → T → Bool → Type 0

-- the test of a type says of each thing of the sort what it answers there
abbrev pub IsRight : {T : Type 0} → Answering T → (Thing → Type 0) → T → (Thing → Bool) → Type 0
IsRight answers Sort type test = (d : Thing) → Sort d → answers d type (test d)

-- With right tests in the place of its types the pattern takes the thing with these captures, or
-- fails. This is a relation, for whether a closure is in a type is not computed
pub record Takes {T : Type 0} (answers : Answering T) (Sort : Thing → Type 0) (p : Pattern T)
    (d : Thing) (result : Option (Captures Name)) : Type 0 where
  pub tested : Pattern (Thing → Bool)
  pub right : Alike (IsRight answers Sort) p tested
  pub gives : take (Thing → Bool) (λ test. test) tested d ≡ result

-- in a graph, of elements and of values; and of written types
abbrev pub ElementTakes : Graph → Pattern NodeId → Thing → Option (Captures Name) → Type 0
ElementTakes graph = Takes (in_node graph) IsElement

abbrev pub ValueTakes : Graph → Interfaces → Pattern NodeId → Thing → Option (Captures Name)
    → Type 0
ValueTakes graph interfaces = Takes (value_in_node graph interfaces) IsValue

abbrev pub WrittenTakes : Scope → Tree → Thing → Option (Captures Name) → Type 0
WrittenTakes scope written = Takes in_written IsElement (pattern_of scope written)

abbrev pub WrittenValueTakes : Interfaces → Scope → Tree → Thing → Option (Captures Name) → Type 0
WrittenValueTakes interfaces scope written =
    Takes (value_in_written interfaces) IsValue (pattern_of scope written)

-- both take the same elements and the same values with the same captures, and no variable is at
-- fault
pub record PatternStandsFor (graph : Graph) (p : Pattern NodeId) (scope : Scope) (written : Tree)
    : Type 0 where
  pub elements : (e : Thing) (result : Option (Captures Name)) → IsElement e
      → ElementTakes graph p e result ↔ WrittenTakes scope written e result
  pub values : (interfaces : Interfaces) (v : Thing) (result : Option (Captures Name)) → IsValue v
      → ValueTakes graph interfaces p v result ↔ WrittenValueTakes interfaces scope written v result
  pub named : IsNamed p

-- the pattern is the written one, with nodes that stand for its types
abbrev pub IsResolved : Graph → Pattern NodeId → Scope → Tree → Type 0
IsResolved graph p scope written = Alike (StandsFor graph) p (pattern_of scope written)
