use Rattle.std.proofs.Common.{List, sym, subst}
use Rattle.std.proofs.Common.{Option}
use Rattle.cd_cells.specs.declared.cell.Part.{Part}
use Rattle.cd_notation.specs.Inner.Leading.{IsTaken}
use Rattle.cd_notation.proofs.Collecting.{IsCollecting, collecting_starts, collects_on, collected}
use Rattle.cd_notation.proofs.fields.collect.Goals as goal

pub loop-part-init : goal.loop-part-init
loop-part-init c =
    subst (λ (parts : List Part). IsCollecting c.args.first c.args.from c.args.labels.now c.args.items.now c.args.labels.now c.args.items.now parts)
    (sym c.clear.ensures.items) (collecting_starts _ _ _ _)

pub loop-part-preserved : goal.loop-part-preserved
loop-part-preserved c =
    collects_on c.args.first c.args.from c.args.labels.now c.args.items.now c.loop-part.labels c.loop-part.items c.loop-part.parts.items c.in-Some.part _ _ _ c.loop-part.invariant
    (subst (λ (taken : Option Part). IsTaken c.args.first c.args.from c.loop-part.labels c.loop-part.items taken c.take_part.new.labels c.take_part.new.items)
    c.in-Some.is c.in_ok-part.ensures)
    c.in_ok-push.ensures.items

pub returns : goal.returns
returns c =
    collected c.args.first c.args.from c.args.labels.now c.args.items.now c.loop-part.labels c.take_part.new.labels _ c.loop-part.items c.take_part.new.items _ c.loop-part.parts.items
    c.loop-part.invariant
    (subst (λ (taken : Option Part). IsTaken c.args.first c.args.from c.loop-part.labels c.loop-part.items taken c.take_part.new.labels c.take_part.new.items)
    c.in_default.is c.in_ok-part.ensures)
    c.cut.ensures c.cut-2.ensures
