use Rattle.std.proofs.Common.{◌∙◌, arith}
use Rattle.cd_sets.proofs.Counting.{found_zero}
use Rattle.cd_sets.proofs.subsets.count_on.Goals as goal

pub returns-then-not-digits-index : goal.returns-then-not-digits-index
returns-then-not-digits-index c =
    c.loop-index.invariant ∙ found_zero c.loop-index.digits c.loop-index.index (omega arith) c.if-not-digits-index.true
