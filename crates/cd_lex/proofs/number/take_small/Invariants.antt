use Rattle.std.proofs.Common.{length, ◌∷◌}
use Rattle.cd_lex.specs.Inner.Prefixes.{first_digits, after_digits}
use Rattle.cd_lex.specs.Inner.Number.{number_after}
use Rattle.cd_lex.proofs.Prefixing.{DigitsGoOn}
use Rattle.cd_lex.proofs.number.take_small.Given as goal

abbrev pub invariant-loop-value : goal.invariant-loop-value
invariant-loop-value l = DigitsGoOn (number_after 0 (first_digits (l.fn.first ∷ l.fn.cursor))) (after_digits (l.fn.first ∷ l.fn.cursor)) l.value l.cursor

abbrev pub decreases-loop-value : goal.decreases-loop-value
decreases-loop-value l = length l.cursor
