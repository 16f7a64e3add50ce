-- What is reported of branches for an arrow, by their patterns and by their bodies.
use Rattle.std.proofs.Common.{inl, inr, ℕ, List, [], Some}
use Rattle.cd_sets.specs.declared.node_id.NodeId.{NodeId}
use Rattle.cd_model.specs.Formula.{Graph}
use Rattle.cd_model.specs.Scope.{Scope}
use Rattle.cd_model.specs.Thing.{Thing}
use Rattle.cd_program.specs.Expr.{Branches}
use Rattle.cd_meaning.specs.Sets.{elements_of}
use Rattle.cd_typing.specs.declared.rule.Rule.TheVariants as rule
use Rattle.cd_least.specs.Faults.{BranchFault}
use Rattle.cd_least.specs.Misses.{IsUncovered}
use Rattle.cd_check.specs.declared.bodies.Limit.{Limit}
use Rattle.cd_check.specs.declared.fault.CheckError.{CheckError}
use Rattle.cd_check.specs.Inner.BodyFaults.{Owes}
use Rattle.cd_check.specs.Inner.Environment.{Nodes}
use Rattle.cd_check.specs.Inner.Known.{Fails}
use Rattle.cd_check.proofs.FunctionFaults.{ArrowFault}
use Rattle.cd_check.proofs.KnownTypes.{fails_more}

-- within the result of an arrow
abbrev pub within_result : NodeId × NodeId → Limit
within_result arrow = record { node = arrow.1; rule = rule.Result }

module _ (scope : Scope) (graph : Graph) (nodes : Nodes) (table : List Thing) (here : ℕ) (branches : Branches) (arrow : NodeId × NodeId)
    (error : CheckError) where
  pub arrow_uncovered : Fails graph nodes table (λ types. IsUncovered scope here branches (elements_of graph arrow.0)) error
      → Fails graph nodes table (ArrowFault scope graph here branches arrow) error
  arrow_uncovered = fails_more graph nodes table (λ types. IsUncovered scope here branches (elements_of graph arrow.0))
      (ArrowFault scope graph here branches arrow) (λ types of at reported d uncovered. inl uncovered) error

  pub arrow_body_fault : Fails graph nodes table
      (λ types. BranchFault scope types [] (elements_of graph arrow.0) (Owes scope graph (Some (within_result arrow))) branches) error
      → Fails graph nodes table (ArrowFault scope graph here branches arrow) error
  arrow_body_fault = fails_more graph nodes table
      (λ types. BranchFault scope types [] (elements_of graph arrow.0) (Owes scope graph (Some (within_result arrow))) branches)
      (ArrowFault scope graph here branches arrow) (λ types of at reported d fault. inr fault) error
