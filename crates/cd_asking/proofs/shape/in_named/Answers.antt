use Rattle.std.proofs.Common.{sym, ◌∙◌, true, false}
use Rattle.std.specs.Prelude.{map}
use Rattle.cd_asking.specs.Inner.Asked.{held}
use Rattle.cd_asking.proofs.Naming.{next_label}
use Rattle.cd_asking.proofs.shape.in_named.Goals as goal

pub returns-then-not-in_field : goal.returns-then-not-in_field
returns-then-not-in_field c = next_label (map held c.args.fields.now) c.args.type_is.now.named c.items-label-items.result.now
    c.args.type_is.now.rest c.loop-label.label-index c.loop-label-item.result false _ c.items-label-items.ensures.value
    c.items-label-items.ensures.rising c.loop-label-item.is c.loop-label-test.true (sym c.if-not-in_field.true ∙ c.in_field.ensures)
    c.loop-label.invariant

pub loop-label-preserved : goal.loop-label-preserved
loop-label-preserved c = next_label (map held c.args.fields.now) c.args.type_is.now.named c.items-label-items.result.now
    c.args.type_is.now.rest c.loop-label.label-index c.loop-label-item.result true _ c.items-label-items.ensures.value
    c.items-label-items.ensures.rising c.loop-label-item.is c.loop-label-test.true (sym c.if-not-in_field.false ∙ c.in_field.ensures)
    c.loop-label.invariant
