use Rattle.cd_typing.proofs.Widening.{widen}
use Rattle.cd_typing.proofs.laws.types_may_be_wider.Goals as goal

pub returns : goal.returns
returns c = widen
