-- Nodes that hold just the functions in all arrows of an interface.
use Rattle.std.specs.Prelude.{◌≡◌, ◌<◌, ℕ, Bool, List, map, length}
use Rattle.cd_sets.specs.declared.node_id.NodeId.{NodeId}
use Rattle.cd_model.specs.Formula.{Graph, nodes, IsIn}
use Rattle.cd_model.specs.Interfaces.{Interfaces, OfWritten, admits}
use Rattle.cd_model.specs.Scope.{Scope}
use Rattle.cd_model.specs.Thing.{Thing, Function, Pairs, IsElement}
use Rattle.cd_model.specs.Types.{closure_maps}
use Rattle.cd_program.specs.Expr.{Signature}
use Rattle.cd_evaluation.specs.ProgramInterfaces.{IsEnoughFor, interface_of, written_arrow}
use Rattle.cd_resolved.specs.Resolved.{function_of}
use Rattle.cd_resolved.specs.declared.function_nodes.FunctionNodes.{FunctionNodes}

module _ (scope : Scope) where
  -- one function with this interface, and which function elements that admits
  abbrev pub alone : (count : ℕ) → List Signature → Interfaces
  alone count interface = OfWritten count (λ at. map (written_arrow scope) interface)

  abbrev pub Admitted : List Signature → Pairs → Type 0
  Admitted interface pairs =
      (count : ℕ) → IsEnoughFor scope count interface → admits (alone count interface) 0 pairs

  -- the node holds just the functions in all arrows of the interface
  pub record IsWhole (graph : Graph) (interface : List Signature) (id : NodeId) : Type 0 where
    pub is_node : id.0 < length graph
    pub has : (count : ℕ) (pairs : Pairs) → IsEnoughFor scope count interface
        → IsElement (Function pairs) → admits (alone count interface) 0 pairs
        → IsIn graph (Function pairs) id
    pub only : (e : Thing) → IsElement e → IsIn graph e id
        → (pairs : Pairs) × (e ≡ Function pairs) × Admitted interface pairs

  -- the answer says whether the closures of a function with this interface are in an arrow
  abbrev pub IsRight : Graph → List Signature → (argument result : NodeId) → Bool → Type 0
  IsRight graph interface argument result answer =
      (count : ℕ) → IsEnoughFor scope count interface
      → closure_maps (nodes graph) (admits (alone count interface)) 0 argument result answer

  -- the whole of a function holds just the functions in all arrows of its interface
  abbrev pub HasWhole : Graph → FunctionNodes → Type 0
  HasWhole graph one = IsWhole graph (interface_of (function_of one)) one.whole
