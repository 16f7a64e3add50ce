use Rattle.std.proofs.Common.{◌≡◌, ◌≤◌, length, drop}
use Rattle.cd_matching.specs.PlainKernel.{plain_nodes}
use Rattle.cd_kernel.specs.Inner.Building.{moves_chain}
use Rattle.cd_kernel.specs.Inner.PlainSteps.{plain_steps}
use Rattle.cd_moves.specs.Inner.PlainMoves.{plain_moves}
use Rattle.cd_kernel.proofs.rows.moves_chain.Given as goal

-- the moves that were gone over
abbrev pub invariant-loop-index : goal.invariant-loop-index
invariant-loop-index l = (l.index ≤ length l.moves) × ((l.rest, plain_nodes l.nodes.items)
    ≡ moves_chain (plain_steps l.steps) (plain_moves (drop l.index l.moves))
    (plain_nodes l.fn.nodes.items))

abbrev pub decreases-loop-index : goal.decreases-loop-index
decreases-loop-index l = l.index
