use Rattle.std.proofs.Common.{◌≡◌, drop}
use Rattle.cd_moves.specs.Inner.PlainMoves.{plain_moves}
use Rattle.cd_moves.specs.Inner.Rows.{plain_row, added_instead}
use Rattle.cd_moves.proofs.moves.Moves.add_instead.Given as goal

-- with those that are left the row becomes what it is to become
abbrev pub invariant-loop-one : goal.invariant-loop-one
invariant-loop-one l = added_instead (plain_row l.self)
    (plain_moves (drop l.one-index l.more.moves.items)) (plain_row l.next)
    ≡ added_instead (plain_row l.fn.self) (plain_row l.more) (plain_row l.next)
