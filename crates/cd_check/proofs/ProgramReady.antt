-- A graph that begins with the nodes of a program.
use Rattle.std.proofs.Common.{◌≡◌, ◌∙◌, ◌++◌, List, ap, subst, append_assoc}
use Rattle.cd_model.specs.AllOf.{AllOf}
use Rattle.cd_model.specs.BuiltIns.{built_ins}
use Rattle.cd_model.specs.Formula.{Graph, IsGraph}
use Rattle.cd_model.proofs.Covered.{each_parts}
use Rattle.cd_typing.specs.Later.{IsLater}
use Rattle.cd_typing.specs.Typed.{scope_of}
use Rattle.cd_resolved.specs.Resolved.{IsResolved, Extends, program_of, program_graph, function_nodes}
use Rattle.cd_resolved.specs.declared.function_nodes.FunctionNodes.{FunctionNodes}
use Rattle.cd_resolved.specs.declared.resolved.Resolved.{Resolved}
use Rattle.cd_resolved.proofs.GraphsGrow.{interfaces_grown}
use Rattle.cd_check.specs.Inner.Promises.{IsPromised}
use Rattle.cd_check.proofs.NodesPromise.{nodes_promise}

module _ (program : Resolved) where
  -- each function of the program promises what its nodes say
  pub promised_in : IsResolved program → (graph more : Graph) → graph ≡ built_ins ++ more → IsGraph graph → Extends program graph
      → AllOf (IsPromised (scope_of (program_of program)) graph) (function_nodes program)
  promised_in is graph more begins sound extends = nodes_promise (scope_of (program_of program)) graph more begins sound (function_nodes program)
      (interfaces_grown (scope_of (program_of program)) (program_graph program) graph is.graph_sound extends (function_nodes program) is.interfaces)

  pub first_of_promised : (graph : Graph) (first rest : List FunctionNodes) → function_nodes program ≡ first ++ rest
      → AllOf (IsPromised (scope_of (program_of program)) graph) (function_nodes program)
      → AllOf (IsPromised (scope_of (program_of program)) graph) first
  first_of_promised graph first rest are promised = (each_parts (IsPromised (scope_of (program_of program)) graph) first rest
      (subst (λ (all : List FunctionNodes). AllOf (IsPromised (scope_of (program_of program)) graph) all) are promised)).0

  -- a longer one begins with them too
  pub extends_later : (graph later : Graph) → Extends program graph → IsLater graph later → Extends program later
  extends_later graph later extends is = (
    extends.0 ++ is.more,
    is.is ∙ ap (λ (g : Graph). g ++ is.more) extends.1 ∙ append_assoc (program_graph program) extends.0 is.more,
  )
