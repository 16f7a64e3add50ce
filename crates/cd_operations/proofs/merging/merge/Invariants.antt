use Rattle.std.proofs.Common.{◌+◌, length}
use Rattle.cd_operations.proofs.PartsMerged.{IsMerging}
use Rattle.cd_operations.proofs.merging.merge.Given as goal

abbrev pub invariant-loop-part : goal.invariant-loop-part
invariant-loop-part l = IsMerging l.values l.fn.first l.fn.second l.made.items l.both

abbrev pub decreases-loop-part : goal.decreases-loop-part
decreases-loop-part l = length l.both.first.now + length l.both.second.now
