use Rattle.cd_needs.specs.RecordType.{record_type}
use Rattle.cd_needs.specs.RecordTypes.{plain_row}
use Rattle.cd_rows.proofs.RowsAfter.{next_rows, next_cells}
use Rattle.cd_rows.proofs.cut.less_cells.Goals as goal

pub loop-index-preserved : goal.loop-index-preserved
loop-index-preserved c =
    let type = record_type c.args.refused.now in
    let row = plain_row c.args.row.now in
    let before = c.loop-index.before.items in
    let cells = c.args.cells.now in
    let head = c.index-cells-index.result in
    let cell = c.in_ok-within_cell.field-0 in (
      next_rows type row before cells c.loop-index.index c.loop-index-test.true head
          c.index-cells-index.is cell c.in_ok-within_cell.ensures _ c.in_ok-push-2.ensures.items
          c.loop-index.rows.items c.in_ok-outside_at.field-0 _
          c.as_slice.ensures.value c.in_ok-outside_at.ensures _
          c.in_ok-push.ensures.items _ c.loop-index.invariant.0,
      next_cells type row before cells c.loop-index.index c.loop-index-test.true head
          c.index-cells-index.is cell c.in_ok-within_cell.ensures _ c.in_ok-push-2.ensures.items
          _ c.loop-index.invariant.1,
    )
