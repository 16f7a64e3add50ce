use Rattle.std.proofs.Common.{◌≡◌, ◌+◌, drop}
use Rattle.std.specs.Prelude.{option_map}
use Rattle.cd_moves.specs.Inner.PlainMoves.{plain_moves}
use Rattle.cd_moves.specs.Inner.Rows.{end_of}
use Rattle.cd_moves.proofs.moves.Moves.end.Given as goal

-- the place is that among those that are left, after those that were gone over
abbrev pub invariant-loop-place : goal.invariant-loop-place
invariant-loop-place l = end_of (plain_moves l.moves)
    ≡ option_map (l.place +◌) (end_of (plain_moves (drop l.place l.moves)))
