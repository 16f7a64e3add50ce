use Rattle.std.proofs.Common.{vec_len}
use Rattle.cd_operations.proofs.Prepending.{IsPutting}
use Rattle.cd_operations.proofs.prepended.put_all.Given as goal

abbrev pub invariant-loop-top : goal.invariant-loop-top
invariant-loop-top l = IsPutting l.fn.values l.fn.stack.items l.fn.end.0 l.values l.stack.items l.made.0

abbrev pub decreases-loop-top : goal.decreases-loop-top
decreases-loop-top l = vec_len l.stack
