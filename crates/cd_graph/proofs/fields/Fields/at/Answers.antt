use Rattle.std.proofs.Common.{◌∙◌, sym}
use Rattle.cd_graph.proofs.FieldAt.{next_says}
use Rattle.cd_graph.proofs.fields.Fields.at.Goals as goal

-- the next field is of the label, so it is the first of all that is
pub returns-then-is_same : goal.returns-then-is_same
returns-then-is_same c =
    sym (next_says c.args.self.now.rest c.args.label.now c.items-field-items.result.now c.loop-field.field-index c.field-item.result
    c.field-item.is c.loop-field-test.true (sym c.is_same.ensures ∙ c.if-is_same.true)) ∙ c.loop-field.invariant
