use Rattle.std.proofs.Common.{[], ◌∷◌, ◌++◌, List, map, ap, ◌∙◌}
use Rattle.std.proofs.lemmas.Result.{IfOk-weaker}
use Rattle.cd_syntax.specs.Name.{Name}
use Rattle.cd_needs.specs.Inner.PlainCells.{plain_cells}
use Rattle.cd_needs.specs.RecordType.{record_type}
use Rattle.cd_needs.specs.RecordTypes.{plain_row}
use Rattle.cd_needs.specs.declared.row.FieldCell.{FieldCell}
use Rattle.cd_rows.specs.Inner.Refining.{less_after, within_type, with_outside}
use Rattle.cd_rows.proofs.RowsAfter.{all_after}
use Rattle.cd_rows.proofs.cut.less.Goals as goal

-- the cells are those of the row
pub returns : goal.returns
returns c =
    let type = record_type c.args.refused.now in
    let row = plain_row c.args.row.now in
    IfOk-weaker c.less_cells.result _ _
    (λ rows is. is
    ∙ (ap (λ (cells : List (Name × FieldCell)). less_after type row [] (plain_cells cells)
    ++ (with_outside type.rest row (map (within_type type) (plain_cells cells)) ∷ []))
    c.as_slice.ensures.value
    ∙ all_after type row))
    c.less_cells.ensures
