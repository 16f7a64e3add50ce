use Rattle.std.proofs.Common.{◌∙◌, sym}
use Rattle.cd_explored.proofs.AskedCells.{found_cell}
use Rattle.cd_explored.proofs.records.asked_at.Goals as goal

pub returns-then-is_same : goal.returns-then-is_same
returns-then-is_same c = sym (found_cell c.args.row.now.every c.args.label.now
    c.args.row.now.fields.items c.deref-name-items.result.now c.loop-name.name-index
    c.loop-name-item.result c.deref-name-items.ensures.value c.loop-name-test.true
    c.loop-name-item.is (sym c.is_same.ensures ∙ c.if-is_same.true)) ∙ c.loop-name.invariant
