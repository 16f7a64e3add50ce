use Rattle.std.proofs.Common.{length}
use Rattle.cd_notation.proofs.Putting.{IsPutting}
use Rattle.cd_notation.proofs.reader.Reader.put.Given as goal

abbrev pub invariant-loop-form : goal.invariant-loop-form
invariant-loop-form l = IsPutting l.fn.values l.fn.self l.fn.value.0 l.values l.self l.value.0

abbrev pub decreases-loop-form : goal.decreases-loop-form
decreases-loop-form l = length l.self.forms
