-- The interfaces of the functions of a program, and what values answer under them.
use Rattle.std.specs.Prelude.{ℕ, Bool, true, List, [], ◌∷◌, ◌↔◌}
use Rattle.cd_sets.specs.declared.node_id.NodeId.{NodeId}
use Rattle.cd_model.specs.AllOf.{AllOf}
use Rattle.cd_model.specs.Formula.{Graph, nodes, in_node}
use Rattle.cd_model.specs.Thing.{Thing, IsElement}
use Rattle.cd_model.specs.Types.{Answers, Presentation, Reader, Admits, reader, closure_maps}
use Rattle.cd_model.specs.Types.{element_maps, value_answers, element_answers}
use Rattle.cd_model.specs.Written.{WrittenType, Written, written, number_of_names, type_of}

-- an arrow of an interface
pub record ArrowOf (X : Type 0) : Type 0 where
  pub argument : X
  pub result : X

-- The arrows of each function, as nodes of a graph or as written types with so many names to use
-- up. This is data, for a contract can speak of all data, and not of all predicates
pub data Interfaces : Type 0 where
  OfNodes : Graph → (ℕ → List (ArrowOf NodeId)) → Interfaces
  OfWritten : (count : ℕ) → (ℕ → List (ArrowOf WrittenType)) → Interfaces

abbrev pub are_in_all : {X : Type 0} → Presentation X → (ℕ → List (ArrowOf X)) → Admits
are_in_all at arrows function pairs =
    AllOf (λ arrow. element_maps at pairs arrow.argument arrow.result true) (arrows function)

abbrev pub admits : Interfaces → Admits
admits (OfNodes graph arrows) = are_in_all (nodes graph) arrows
admits (OfWritten count arrows) = are_in_all (written count) arrows

-- what a value answers at heads over the nodes of a graph, at each node, and at a written type
abbrev pub value_reader : Graph → Interfaces → Thing → Reader NodeId
value_reader graph interfaces =
    reader (nodes graph) (closure_maps (nodes graph) (admits interfaces))

abbrev pub value_in_node : Graph → Interfaces → Thing → Answers NodeId
value_in_node graph interfaces is = value_answers (nodes graph) (admits interfaces) is

abbrev pub value_in_written : Interfaces → Thing → Written → Bool → Type 0
value_in_written interfaces is type =
    value_answers (written (number_of_names type)) (admits interfaces) is (type_of type)

-- arrows of nodes and of written types, one by one, that hold the same elements
abbrev pub AgreeAt : Graph → ℕ → NodeId → WrittenType → Type 0
AgreeAt graph count id type = (e : Thing) (answer : Bool) → IsElement e → in_node graph e id answer
    ↔ element_answers (written count) e type answer

abbrev pub ArrowsAgree : Graph → ℕ → List (ArrowOf NodeId) → List (ArrowOf WrittenType) → Type 0
ArrowsAgree graph count [] [] = Unit {0}
ArrowsAgree graph count [] (other ∷ others) = ⊥
ArrowsAgree graph count (arrow ∷ arrows) [] = ⊥
ArrowsAgree graph count (arrow ∷ arrows) (other ∷ others) =
    AgreeAt graph count arrow.argument other.argument
    × AgreeAt graph count arrow.result other.result
    × ArrowsAgree graph count arrows others
