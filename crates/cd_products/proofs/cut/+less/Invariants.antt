use Rattle.std.proofs.Common.{length}
use Rattle.cd_products.proofs.cut.+less.Given as goal

-- the nodes that are left
abbrev pub decreases-less : goal.decreases-less
decreases-less l = length l.row.now
