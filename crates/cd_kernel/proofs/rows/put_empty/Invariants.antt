use Rattle.std.proofs.Common.{◌≡◌, ◌≤◌, length, drop}
use Rattle.cd_matching.specs.PlainKernel.{plain_nodes}
use Rattle.cd_kernel.specs.Inner.Building.{put_empty}
use Rattle.cd_kernel.proofs.rows.put_empty.Given as goal

-- the variables that were gone over
abbrev pub invariant-loop-index : goal.invariant-loop-index
invariant-loop-index l = (l.index ≤ length l.variables) × ((l.rest, plain_nodes l.nodes.items)
    ≡ put_empty l.fn.id (drop l.index l.variables) (plain_nodes l.fn.nodes.items))

abbrev pub decreases-loop-index : goal.decreases-loop-index
decreases-loop-index l = l.index
