use Rattle.std.proofs.Common.{◌≡◌, drop}
use Rattle.cd_matching.specs.PlainKernel.{plain_nodes}
use Rattle.cd_kernel.specs.Inner.Building.{put_rows}
use Rattle.cd_kernel.specs.Inner.PlainSteps.{plain_steps}
use Rattle.cd_moves.specs.Inner.Rows.{plain_rows}
use Rattle.cd_kernel.proofs.rows.put_rows.Given as goal

-- with the rows that are left the nodes become those of all
abbrev pub invariant-loop-row : goal.invariant-loop-row
invariant-loop-row l =
    put_rows (plain_steps l.steps) (plain_rows (drop l.row-index l.rows))
    (plain_nodes l.nodes.items)
    ≡ put_rows (plain_steps l.steps) (plain_rows l.rows) (plain_nodes l.fn.nodes.items)
