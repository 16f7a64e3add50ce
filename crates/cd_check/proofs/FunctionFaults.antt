-- A fault of the branches of a function for one of its arrows is one of the function.
use Rattle.std.proofs.Common.{◌≡◌, ◌<◌, ℕ, List, length, get_or, Option}
use Rattle.cd_sets.specs.declared.node_id.NodeId.{NodeId}
use Rattle.cd_syntax.specs.Name.{Name}
use Rattle.cd_model.specs.AllOf.{AnyOf}
use Rattle.cd_model.specs.Formula.{Graph, IsGraph}
use Rattle.cd_model.specs.Scope.{Scope}
use Rattle.cd_model.specs.Thing.{Thing}
use Rattle.cd_program.specs.Expr.{Branches, Signature, function}
use Rattle.cd_meaning.specs.Sets.{elements_of}
use Rattle.cd_typing.specs.Interfaces.{Arrow}
use Rattle.cd_typing.specs.Later.{IsLater}
use Rattle.cd_typing.specs.Typ.{typ, In, Types, with_type}
use Rattle.cd_typing.specs.declared.rule.Rule.{Rule}
use Rattle.cd_typing.proofs.Subsets.{itself}
use Rattle.cd_least.specs.Faults.{FunctionFault, AResult}
use Rattle.cd_check.specs.declared.fault.CheckError.{CheckError}
use Rattle.cd_check.specs.Inner.BodyFaults.{CoveringFault}
use Rattle.cd_check.specs.Inner.Environment.{Nodes, AreOfTypes, AreNodesOf, with_node}
use Rattle.cd_check.specs.Inner.Known.{Fails}
use Rattle.cd_check.specs.Inner.Promises.{arrow_in, arrows_in, IsPromise}
use Rattle.cd_check.proofs.ArrowsKept.{named_types}
use Rattle.cd_check.proofs.KnownTypes.{reports_more}
use Rattle.cd_check.proofs.OneOfAll.{any_at, any_of_map}
use Rattle.cd_check.proofs.PromisesKept.{promise_later}
use Rattle.cd_check.proofs.TypesLater.{types_later}

module _ (scope : Scope) where
  -- of branches for one arrow of a function that stands here
  abbrev pub ArrowFault : Graph → (here : ℕ) → Branches → NodeId × NodeId → Types → (at : ℕ) → Rule → Thing → Type 0
  ArrowFault graph here branches arrow types = CoveringFault scope types here (elements_of graph arrow.0)
      (AResult scope (elements_of graph arrow.1)) branches

  -- the function's own name has the type of what is in all arrows
  pub one_faulty : (graph : Graph) (here : ℕ) (name : Option Name) (name_at : ℕ) (interface : List Signature) (branches : Branches)
      → (arrows : List (NodeId × NodeId)) (whole : NodeId) → IsPromise scope graph interface arrows whole → (types : Types) (at : ℕ) (reported : Rule)
      → (d : Thing) → AnyOf (λ arrow. ArrowFault graph here branches arrow (with_type name (typ graph whole) types) at reported d) arrows
      → FunctionFault scope types (function here name name_at interface branches) at reported d
  one_faulty graph here name name_at interface branches arrows whole promise types at reported d any = (
    arrows_in graph arrows,
    typ graph whole,
    promise.written,
    promise.is_whole,
    any_of_map (arrow_in graph) (λ (arrow : Arrow). CoveringFault scope (with_type name (typ graph whole) types) here (In arrow.argument)
        (AResult scope (In arrow.result)) branches at reported d) arrows any,
  )

  -- the interface is read in an old graph, and the branches are checked for an arrow from a later one on
  pub arrow_at_fault : (old later : Graph) → IsLater old later → IsGraph old → (nodes : Nodes) → AreNodesOf old nodes → (table : List Thing)
      → (here : ℕ) (name : Option Name) (name_at : ℕ) (interface : List Signature) (branches : Branches)
      → (arrows : List (NodeId × NodeId)) (whole : NodeId) → IsPromise scope old interface arrows whole
      → (index : ℕ) (arrow : NodeId × NodeId) → arrow ≡ get_or arrows index arrow → index < length arrows → (error : CheckError)
      → Fails later (with_node name whole nodes) table (ArrowFault later here branches arrow) error
      → Fails old nodes table (λ types. FunctionFault scope types (function here name name_at interface branches)) error
  arrow_at_fault old later is sound nodes are table here name name_at interface branches arrows whole promise index arrow at more =
      reports_more table
      (λ place reported d. (inner : Types) → AreOfTypes later (with_node name whole nodes) inner
      → ArrowFault later here branches arrow inner place reported d)
      (λ place reported d. (types : Types) → AreOfTypes old nodes types
      → FunctionFault scope types (function here name name_at interface branches) place reported d)
      (λ place reported d fault types of. one_faulty later here name name_at interface branches arrows whole
      (promise_later old later is sound scope interface arrows whole promise) types place reported d
      (any_at (λ (one : NodeId × NodeId). ArrowFault later here branches one (with_type name (typ later whole) types) place reported d)
      arrows index arrow at more
      (fault (with_type name (typ later whole) types) (named_types scope later nodes types (typ later whole) whole
      (types_later old later is sound nodes are types of)
      (record { within = itself (elements_of later whole); whole = itself (elements_of later whole) }) name))))
