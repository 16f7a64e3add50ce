use Rattle.std.proofs.Common.{subst}
use Rattle.cd_replies.specs.Naming.{RefusesNames}
use Rattle.cd_replies.proofs.TextReading.{none_refused}
use Rattle.cd_running.proofs.workload.queries.count_with.Goals as goal

-- no naming fault stands where nothing is declared
pub unreachable-requires : goal.unreachable-requires
unreachable-requires c =
    none_refused c.in-Err-Refused.field-0-0
    (subst (λ list. RefusesNames list c.in-Err-Refused.field-0-0) c.requires.none
    (rw (c.in-Err-Refused.is, c.in-Err-Refused.field-0-is) at c.declare.ensures.refused))
