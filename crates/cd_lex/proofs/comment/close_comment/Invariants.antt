use Rattle.std.proofs.Common.{◌≡◌, ◌≤◌, ◌+◌, length}
use Rattle.cd_lex.specs.Inner.Commenting.{within, left_from}
use Rattle.cd_lex.proofs.comment.close_comment.Given as goal

-- what is left after the comment from here on is what is left after it from the start; each place around took a character
abbrev pub invariant-loop-c : goal.invariant-loop-c
invariant-loop-c l = (left_from l.state l.cursor ≡ left_from (within 0) l.fn.cursor) × (l.state.around + length l.cursor ≤ l._most)

abbrev pub decreases-loop-c : goal.decreases-loop-c
decreases-loop-c l = length l.cursor
