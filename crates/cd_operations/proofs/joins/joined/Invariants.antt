use Rattle.cd_operations.proofs.Joining.{IsJoining}
use Rattle.cd_operations.proofs.joins.joined.Given as goal

abbrev pub invariant-loop-first : goal.invariant-loop-first
invariant-loop-first l = IsJoining l.fn.values l.fn.results.0 l.values l.left.0 l.made.0

abbrev pub decreases-loop-first : goal.decreases-loop-first
decreases-loop-first l = l.left.0
