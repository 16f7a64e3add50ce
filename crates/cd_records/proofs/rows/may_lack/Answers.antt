use Rattle.std.proofs.Common.{◌∙◌, ap, sym}
use Rattle.cd_rules.specs.Rows.{Cell}
use Rattle.cd_records.proofs.FoundCells.{found_cell}
use Rattle.cd_records.proofs.rows.may_lack.Goals as goal

pub returns-then-is_same : goal.returns-then-is_same
returns-then-is_same c = ap (λ (cell : Cell). cell.absent) (sym (found_cell
    c.args.row.now.every c.args.label.now c.args.row.now.fields.items
    c.deref-name-items.result.now c.loop-name.name-index c.loop-name-item.result
    c.deref-name-items.ensures.value c.loop-name-test.true c.loop-name-item.is
    (sym c.is_same.ensures ∙ c.if-is_same.true))) ∙ c.loop-name.invariant
