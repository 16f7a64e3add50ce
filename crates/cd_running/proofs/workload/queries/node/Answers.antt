use Rattle.std.proofs.Common.{sym, subst}
use Rattle.cd_syntax.specs.TypeTree.{NoDeclaration}
use Rattle.cd_resolve.specs.Faults.{Fault, IsFaultOfType}
use Rattle.cd_running.proofs.QueriesRead.{query_is_sound}
use Rattle.cd_running.proofs.workload.queries.node.Goals as goal

pub put-requires-clause-sound : goal.put-requires-clause-sound
put-requires-clause-sound c =
    subst (λ is. (fault : Fault) → IsFaultOfType NoDeclaration is fault → ⊥) (sym c.in_ok-tree.ensures)
    (query_is_sound c.args.number)
