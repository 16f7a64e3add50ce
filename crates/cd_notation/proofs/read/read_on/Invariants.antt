use Rattle.std.proofs.Common.{length}
use Rattle.cd_cells.specs.Table.{Grows}
use Rattle.cd_lex.specs.Lexing.{left}
use Rattle.cd_notation.specs.Inner.Going.{Going}
use Rattle.cd_notation.proofs.read.read_on.Given as goal

-- what was read makes the state
abbrev pub invariant-loop-kind : goal.invariant-loop-kind
invariant-loop-kind l = Going (left l.fn.lexer) l.lexer l.values l.expecting l.reader × Grows l.fn.values l.values

abbrev pub decreases-loop-kind : goal.decreases-loop-kind
decreases-loop-kind l = length (left l.lexer)
