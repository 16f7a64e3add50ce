use Rattle.std.proofs.Common.{length}
use Rattle.cd_syntax.specs.Digits.{hexadecimal_value}
use Rattle.cd_lex.specs.Inner.Numerals.{first_hexadecimal, after_hexadecimal}
use Rattle.cd_lex.proofs.Hexadecimals.{HexadecimalGoesOn}
use Rattle.cd_lex.proofs.number.read_hexadecimal.Given as goal

abbrev pub invariant-loop-c : goal.invariant-loop-c
invariant-loop-c l = HexadecimalGoesOn (hexadecimal_value (first_hexadecimal l.fn.cursor)) (after_hexadecimal l.fn.cursor) l.value l.cursor

abbrev pub decreases-loop-c : goal.decreases-loop-c
decreases-loop-c l = length l.cursor
