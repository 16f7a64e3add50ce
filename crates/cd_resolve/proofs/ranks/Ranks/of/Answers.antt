use Rattle.std.proofs.Common.{map}
use Rattle.cd_resolve.specs.Inner.PlainFound.{plain_link}
use Rattle.cd_resolve.proofs.Falling.{none_fall}
use Rattle.cd_resolve.proofs.ranks.Ranks.of.Goals as goal

-- with no ranks all links fall
pub returns : goal.returns
returns c = none_fall c.none.result (map plain_link c.args.links.now) c.none.ensures
