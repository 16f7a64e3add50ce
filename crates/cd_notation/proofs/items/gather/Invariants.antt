use Rattle.std.proofs.Common.{length}
use Rattle.cd_notation.proofs.Gathering.{IsGathering}
use Rattle.cd_notation.proofs.items.gather.Given as goal

abbrev pub invariant-loop-items : goal.invariant-loop-items
invariant-loop-items l = IsGathering l.fn.values l.from l.fn.items l.fn.end.0 l.values l.items l.end.0

abbrev pub decreases-loop-items : goal.decreases-loop-items
decreases-loop-items l = length l.items
