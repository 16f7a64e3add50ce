use Rattle.cd_typing.proofs.Narrowing.{narrow}
use Rattle.cd_typing.proofs.laws.names_may_be_narrower.Goals as goal

pub returns : goal.returns
returns c = narrow
