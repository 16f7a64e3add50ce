use Rattle.cd_rules.proofs.WorkFalls.{step_further}
use Rattle.cd_rules.proofs.RunsEnd.{runs_end}
use Rattle.cd_rules.proofs.machine_laws.runs_end.Goals as goal

pub returns-clause-further : goal.returns-clause-further
returns-clause-further c = step_further

pub returns-clause-ends : goal.returns-clause-ends
returns-clause-ends c = runs_end
