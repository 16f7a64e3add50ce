use Rattle.cd_model.proofs.Admitting.{interfaces_agree}
use Rattle.cd_model.proofs.laws.interfaces_agree.Goals as goal

pub returns : goal.returns
returns c = interfaces_agree
