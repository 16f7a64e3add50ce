use Rattle.std.proofs.Common.{length}
use Rattle.cd_lex.specs.Inner.Prefixes.{first_digits, after_digits}
use Rattle.cd_lex.specs.Inner.Number.{number_after}
use Rattle.cd_lex.proofs.Prefixing.{DigitsGoOn}
use Rattle.cd_lex.proofs.number.read_more_digits.Given as goal

abbrev pub invariant-loop-c : goal.invariant-loop-c
invariant-loop-c l = DigitsGoOn (number_after l.before (first_digits l.fn.cursor)) (after_digits l.fn.cursor) l.value l.cursor

abbrev pub decreases-loop-c : goal.decreases-loop-c
decreases-loop-c l = length l.cursor
