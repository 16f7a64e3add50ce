-- What is reported of one of the things that are gone over is a fault of one of all.
use Rattle.std.proofs.Common.{◌≡◌, ◌<◌, ℕ, true, List, length, get_or}
use Rattle.cd_sets.specs.declared.node_id.NodeId.{NodeId}
use Rattle.cd_model.specs.AllOf.{AnyOf}
use Rattle.cd_model.specs.BuiltIns.{DATA}
use Rattle.cd_model.specs.Formula.{Graph, IsGraph}
use Rattle.cd_model.specs.Scope.{Scope}
use Rattle.cd_model.specs.Thing.{Thing, IsElement}
use Rattle.cd_program.specs.Expr.{FunctionTree}
use Rattle.cd_meaning.specs.Sets.{elements_of}
use Rattle.cd_typing.specs.Later.{IsLater}
use Rattle.cd_typing.specs.declared.rule.Rule.TheVariants as rule
use Rattle.cd_least.specs.Faults.{FunctionFault}
use Rattle.cd_check.specs.declared.fault.CheckError.{CheckError}
use Rattle.cd_check.specs.Faults.{Reports}
use Rattle.cd_check.specs.Inner.Environment.{Nodes, AreNodesOf}
use Rattle.cd_check.specs.Inner.FunctionNames.{begins_at, is_main}
use Rattle.cd_check.specs.Inner.Known.{Fails, IsOutside}
use Rattle.cd_check.specs.Inner.Programs.{ResultsFault}
use Rattle.cd_check.proofs.KnownTypes.{reports_more, fails_earlier}
use Rattle.cd_check.proofs.OneOfAll.{any_at}

module _ {X : Type 0} (all : List X) (index : ℕ) (one : X) (at : one ≡ get_or all index one) (more : index < length all) (table : List Thing)
    (error : CheckError) where
  -- a function that is checked from a later graph on
  pub function_reported : (scope : Scope) (old later : Graph) → IsLater old later → IsGraph old → (nodes : Nodes) → AreNodesOf old nodes
      → (function_of : X → FunctionTree) → Fails later nodes table (λ types. FunctionFault scope types (function_of one)) error
      → Fails old nodes table (λ types place reported d. AnyOf (λ other. FunctionFault scope types (function_of other) place reported d) all) error
  function_reported scope old later is sound nodes are function_of = fails_earlier old later is sound nodes are table
      (λ types. FunctionFault scope types (function_of one))
      (λ types place reported d. AnyOf (λ other. FunctionFault scope types (function_of other) place reported d) all)
      (λ types of place reported d fault. any_at (λ other. FunctionFault scope types (function_of other) place reported d) all index one at more fault) error

  -- the function `main`
  pub main_reported : (graph : Graph) (function_of : X → FunctionTree) (arrows_of : X → List (NodeId × NodeId)) → is_main (function_of one) ≡ true
      → Reports table (ResultsFault graph (begins_at (function_of one)) (arrows_of one)) error
      → Reports table (λ place reported d. AnyOf (λ other. (is_main (function_of other) ≡ true)
      × ResultsFault graph (begins_at (function_of other)) (arrows_of other) place reported d) all) error
  main_reported graph function_of arrows_of main = reports_more table (ResultsFault graph (begins_at (function_of one)) (arrows_of one))
      (λ place reported d. AnyOf (λ other. (is_main (function_of other) ≡ true)
      × ResultsFault graph (begins_at (function_of other)) (arrows_of other) place reported d) all)
      (λ place reported d fault. any_at (λ other. (is_main (function_of other) ≡ true)
      × ResultsFault graph (begins_at (function_of other)) (arrows_of other) place reported d) all index one at more (main, fault)) error

-- an arrow of `main` whose result is not within data
pub result_reported : (arrows : List (NodeId × NodeId)) (index : ℕ) (arrow : NodeId × NodeId) → arrow ≡ get_or arrows index arrow → index < length arrows
    → (table : List Thing) (error : CheckError) (graph : Graph) (here : ℕ) → IsOutside graph table arrow.1 DATA here rule.MainResult error
    → Reports table (ResultsFault graph here arrows) error
result_reported arrows index arrow at more table error graph here = reports_more table
    (λ place reported d. (place ≡ here) × (reported ≡ rule.MainResult) × IsElement d × elements_of graph arrow.1 d × (elements_of graph DATA d → ⊥))
    (ResultsFault graph here arrows)
    (λ place reported d is. (
      is.0,
      is.1,
      is.2,
      is.4,
      any_at (λ (other : NodeId × NodeId). elements_of graph other.1 d) arrows index arrow at more is.3,
    )) error
