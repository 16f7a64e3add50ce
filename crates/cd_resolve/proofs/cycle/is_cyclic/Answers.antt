use Rattle.std.proofs.Common.{rules}
use Rattle.cd_resolve.specs.Inner.Cycles.{is_cyclic}
use Rattle.cd_resolve.proofs.cycle.is_cyclic.Goals as goal

pub returns : goal.returns
unfolding is_cyclic
returns c = search rules
