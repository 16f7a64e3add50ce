use Rattle.std.proofs.Common.{◌≡◌, drop}
use Rattle.cd_moves.specs.Inner.PlainMoves.{plain_move, plain_moves, has}
use Rattle.cd_moves.proofs.moves.Move.is_among.Given as goal

-- the move is among those that are left where it is among all
abbrev pub invariant-loop-other : goal.invariant-loop-other
invariant-loop-other l =
    has (plain_moves (drop l.other-index l.moves)) (plain_move l.self)
    ≡ has (plain_moves l.moves) (plain_move l.self)
