use Rattle.std.proofs.Common.{length}
use Rattle.cd_lex.specs.Lexing.{left}
use Rattle.cd_notation.specs.Inner.Going.{Passing}
use Rattle.cd_notation.proofs.read.refused.Given as goal

abbrev pub invariant-loop-error : goal.invariant-loop-error
invariant-loop-error l = Passing l.fn.lexer l.lexer

abbrev pub decreases-loop-error : goal.decreases-loop-error
decreases-loop-error l = length (left l.lexer)
