use Rattle.cd_running.proofs.RunCounted.{said}
use Rattle.cd_running.proofs.workload.work.Goals as goal

pub returns : goal.returns
returns c = said c.args.size c.in_ok-ended.ended c.in_ok-yes.yes c.in_ok-ended.ensures c.in_ok-yes.ensures c.said.result c.said.ensures
