use Rattle.std.proofs.Common.{◌∙◌, ap₂, [], subst}
use Rattle.cd_cells.specs.Cells.{thing_at}
use Rattle.cd_cells.specs.Table.{table, IsAt}
use Rattle.cd_operations.specs.Along.{items_along, turned}
use Rattle.cd_cells.proofs.GrownTables.{thing_grown}
use Rattle.cd_operations.proofs.ItemsAlong.{turned_sequence}
use Rattle.cd_operations.proofs.sequences.in_order.Goals as goal

pub returns-clause-is : goal.returns-clause-is
returns-clause-is c =
    let done = thing_grown _ _ c.in_ok-nil.ensures.grows _ c.requires in
    let same = ap₂ (λ done onto. turned (items_along done) onto) done c.in_ok-nil.ensures.is.is ∙ turned_sequence (items_along (thing_at (table c.args.values.now) c.args.done.0)) [] in
    subst (IsAt (table c.reversed.new.values) c.in_ok-reversed.field-0.0) same c.in_ok-reversed.ensures.is
