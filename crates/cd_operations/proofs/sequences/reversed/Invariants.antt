use Rattle.cd_operations.proofs.Turning.{IsTurning}
use Rattle.cd_operations.proofs.sequences.reversed.Given as goal

abbrev pub invariant-loop-first : goal.invariant-loop-first
invariant-loop-first l = IsTurning l.fn.values l.fn.done.0 l.fn.onto.0 l.values l.left.0 l.made.0

abbrev pub decreases-loop-first : goal.decreases-loop-first
decreases-loop-first l = l.left.0
