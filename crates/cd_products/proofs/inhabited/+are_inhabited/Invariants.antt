use Rattle.std.proofs.Common.{length}
use Rattle.cd_products.proofs.inhabited.+are_inhabited.Given as goal

-- the questions that are left
abbrev pub decreases-are_inhabited : goal.decreases-are_inhabited
decreases-are_inhabited l = length l.cells.now
