use Rattle.cd_rules.proofs.EndlessRun.{endless_run}
use Rattle.cd_rules.proofs.machine_laws.worked_examples.Goals as goal

pub returns : goal.returns
returns c = endless_run
