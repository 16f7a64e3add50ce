use Rattle.std.proofs.Common.{◌≡◌, ◌++◌, drop}
use Rattle.cd_moves.specs.Inner.PlainMoves.{plain_moves}
use Rattle.cd_moves.specs.Inner.Rows.{less}
use Rattle.cd_moves.proofs.moves.Moves.add_less.Given as goal

-- with those that are left the moves become what they are to become
abbrev pub invariant-loop-one : goal.invariant-loop-one
invariant-loop-one l =
    plain_moves l.moves.items ++ less (plain_moves l.row) (plain_moves (drop l.one-index l.more))
    ≡ plain_moves l.fn.moves.items ++ less (plain_moves l.row) (plain_moves l.more)
