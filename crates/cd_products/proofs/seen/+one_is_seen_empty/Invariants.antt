use Rattle.std.proofs.Common.{length}
use Rattle.cd_products.proofs.seen.+one_is_seen_empty.Given as goal

-- the questions that are left
abbrev pub decreases-one_is_seen_empty : goal.decreases-one_is_seen_empty
decreases-one_is_seen_empty l = length l.questions.now
