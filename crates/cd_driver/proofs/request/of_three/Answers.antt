use Rattle.cd_driver.proofs.Asking.{asks_run}
use Rattle.cd_driver.proofs.request.of_three.Goals as goal

pub returns-in-run : goal.returns-in-run
returns-in-run c = asks_run c.args.name.now c.args.first.now c.args.second.now c.in-run.is
