use Rattle.std.proofs.Common.{◌≡◌, ◌≤◌, ◌+◌, length, ◌∷◌}
use Rattle.cd_lex.specs.Inner.Prefixes.{first_digits, after_digits}
use Rattle.cd_lex.specs.Inner.Number.{number_after}
use Rattle.cd_lex.proofs.Prefixing.{DigitsGoOn}
use Rattle.cd_lex.proofs.quoted.code.Given as goal

-- the digits that are left make the number; so many are read, no more than 7, and their value is no greater than a character's
abbrev pub invariant-loop-c : goal.invariant-loop-c
invariant-loop-c l = DigitsGoOn (number_after 0 (first_digits (l.fn.first ∷ l.fn.cursor))) (after_digits (l.fn.first ∷ l.fn.cursor)) l.value l.cursor
    × (l.count + length (first_digits l.cursor) ≡ length (first_digits (l.fn.first ∷ l.fn.cursor)))
    × (l.count ≤ 7) × (l.value ≤ 1114111)

abbrev pub decreases-loop-c : goal.decreases-loop-c
decreases-loop-c l = length l.cursor
