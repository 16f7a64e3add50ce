use Rattle.cd_driver.proofs.Reasoning.{causes}
use Rattle.cd_driver.proofs.laws.causes.Goals as goal

pub returns : goal.returns
returns c = causes
