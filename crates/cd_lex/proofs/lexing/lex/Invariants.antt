use Rattle.std.proofs.Common.{length}
use Rattle.std.specs.Str.{chars}
use Rattle.cd_lex.specs.Lexing.{left}
use Rattle.cd_lex.specs.Inner.Reading.{HasRead}
use Rattle.cd_lex.proofs.lexing.lex.Given as goal

abbrev pub invariant-loop-tokens : goal.invariant-loop-tokens
invariant-loop-tokens l = HasRead (chars l.fn.text) l.tokens.items l.lexer

abbrev pub decreases-loop-tokens : goal.decreases-loop-tokens
decreases-loop-tokens l = length (left l.lexer)
