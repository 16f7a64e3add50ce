use Rattle.std.proofs.Common.{length}
use Rattle.cd_notation.proofs.Collecting.{IsCollecting}
use Rattle.cd_notation.proofs.fields.collect.Given as goal

abbrev pub invariant-loop-part : goal.invariant-loop-part
invariant-loop-part l = IsCollecting l.first l.from l.fn.labels l.fn.items l.labels l.items l.parts.items

abbrev pub decreases-loop-part : goal.decreases-loop-part
decreases-loop-part l = length l.labels
