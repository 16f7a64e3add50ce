use Rattle.std.proofs.Common.{◌≡◌, ◌+◌, drop}
use Rattle.cd_kernel.specs.Inner.Building.{of_moves}
use Rattle.cd_moves.specs.Inner.PlainMoves.{plain_moves}
use Rattle.cd_kernel.proofs.rows.of_moves.Given as goal

-- those that were gone over, and those that are left
abbrev pub invariant-loop-one : goal.invariant-loop-one
invariant-loop-one l = l.count + of_moves l.group (plain_moves (drop l.one-index l.moves))
    ≡ of_moves l.group (plain_moves l.moves)
