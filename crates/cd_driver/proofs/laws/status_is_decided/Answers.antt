use Rattle.cd_driver.proofs.OneStatus.{one_status}
use Rattle.cd_driver.proofs.laws.status_is_decided.Goals as goal

pub returns : goal.returns
returns c = one_status
