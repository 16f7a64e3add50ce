use Rattle.std.proofs.Common.{rules}
use Rattle.cd_running.proofs.EntriesSoFar.{entry_pushed}
use Rattle.cd_running.proofs.workload.document.work_document.Goals as goal

pub loop-number-preserved : goal.loop-number-preserved
loop-number-preserved c =
    entry_pushed _ _ _ c.loop-number.number c.loop-number.invariant (search rules) c.in_ok-push_entry.ensures
