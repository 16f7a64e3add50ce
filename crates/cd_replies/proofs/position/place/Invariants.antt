use Rattle.std.proofs.Common.{◌≡◌, ◌+◌, ◌≤◌, length}
use Rattle.std.specs.Str.{chars, IsUtf8}
use Rattle.cd_replies.specs.Position.{characters_before as before_of, line_after, column_after}
use Rattle.cd_replies.proofs.Positions.{line_from, column_from}
use Rattle.cd_replies.proofs.position.place.Given as goal

-- the rest leads from this line and column to those of the whole, and neither went further than the bytes that are gone
abbrev pub invariant-loop-c : goal.invariant-loop-c
invariant-loop-c l =
    IsUtf8 l.c-iterator.rest.now
    × (line_from l.line (before_of l.left (chars l.c-iterator.rest.now)) ≡ line_after (before_of l.fn.at (chars l.fn.text)))
    × (column_from l.column (before_of l.left (chars l.c-iterator.rest.now)) ≡ column_after (before_of l.fn.at (chars l.fn.text)))
    × (l.line + length l.c-iterator.rest.now ≤ 1 + length l.fn.text)
    × (l.column + length l.c-iterator.rest.now ≤ 1 + length l.fn.text)
