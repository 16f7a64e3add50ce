-- What is left of what is matched, where no branch takes it, is reported as not covered.
use Rattle.std.proofs.Common.{◌≡◌, ℕ, List}
use Rattle.cd_sets.specs.declared.node_id.NodeId.{NodeId}
use Rattle.cd_model.specs.BuiltIns.{EMPTY}
use Rattle.cd_model.specs.Formula.{Graph}
use Rattle.cd_model.specs.Scope.{Scope}
use Rattle.cd_model.specs.Thing.{Thing, IsElement}
use Rattle.cd_program.specs.Expr.{Branches}
use Rattle.cd_meaning.specs.Sets.{Set, elements_of}
use Rattle.cd_typing.specs.Branches.{IsTaken}
use Rattle.cd_typing.specs.Typ.{Types}
use Rattle.cd_typing.specs.declared.rule.Rule.TheVariants as rule
use Rattle.cd_least.specs.Misses.{IsUncovered}
use Rattle.cd_check.proofs.KnownTypes.{reports_more}
use Rattle.cd_check.specs.Inner.Environment.{Nodes, AreOfTypes}
use Rattle.cd_check.specs.Inner.Known.{Fails, IsOutside}
use Rattle.cd_check.specs.declared.fault.CheckError.{CheckError}

pub uncovered_fails : (scope : Scope) (old : Graph) (nodes : Nodes) (graph : Graph) (branches : Branches) (matched : Set) (rest : NodeId)
    → ((e : Thing) → IsElement e → elements_of graph rest e → matched e × (IsTaken scope branches e → ⊥)) → (here : ℕ) (table : List Thing)
    (error : CheckError) → IsOutside graph table rest EMPTY here rule.NoBranch error
    → Fails old nodes table (λ types. IsUncovered scope here branches matched) error
uncovered_fails scope old nodes graph branches matched rest none here table = reports_more table
    (λ at reported d. (at ≡ here) × (reported ≡ rule.NoBranch) × IsElement d × elements_of graph rest d × (elements_of graph EMPTY d → ⊥))
    (λ at reported d. (types : Types) → AreOfTypes old nodes types → IsUncovered scope here branches matched at reported d)
    (λ at reported d is types of. let left = none d is.2 is.3 in record {
      rule = is.1;
      place = is.0;
      element = is.2;
      in_set = left.0;
      untaken = left.1;
    })
