use Rattle.std.proofs.Common.{◌∙◌, ap}
use Rattle.cd_cells.specs.Cells.{thing_at}
use Rattle.cd_cells.specs.Table.{table}
use Rattle.cd_operations.specs.Along.{items_along}
use Rattle.cd_operations.proofs.ItemsAlong.{turned_items}
use Rattle.cd_operations.proofs.Turning.{turned_over}
use Rattle.cd_operations.proofs.sequences.reversed.Goals as goal

pub returns-clause-items : goal.returns-clause-items
returns-clause-items c =
    let at = turned_over _ _ _ _ _ _ c.loop-first.invariant c.in_default.ensures in
    let old = table c.args.values.now in
    ap items_along at.is ∙ turned_items (items_along (thing_at old c.args.done.0)) (thing_at old c.args.onto.0)
