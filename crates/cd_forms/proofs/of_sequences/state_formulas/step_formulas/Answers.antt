use Rattle.std.proofs.Common.{sym, subst}
use Rattle.std.proofs.lemmas.List.{take_all}
use Rattle.cd_forms.specs.Inner.StateFormulas.{StepsAsk}
use Rattle.cd_forms.proofs.StateFormulasMade.{steps_more, steps_ask}
use Rattle.cd_forms.proofs.StatesExplored.{grow_then}
use Rattle.cd_forms.proofs.of_sequences.state_formulas.step_formulas.Goals as goal

-- one step more
pub loop-step-preserved : goal.loop-step-preserved
loop-step-preserved c =
    let steps = c.args.steps.now in
    let i = c.loop-step.step-index in
    let step = c.step-item.result in
    let old = c.loop-step.items in
    let new = c.item_node.new.items in
    let before = c.loop-step.invariant in
    let of = c.in_ok-item.ensures in record {
      made = steps_more c.args.first c.args.after old new of.grow steps i step
          c.loop-step.members.items c.push.new.self.items c.pair.result c.in_ok-item.item
          c.in_ok-place.field-0 c.loop-step-test.true c.step-item.is before.made of.node
          c.in_ok-place.ensures c.pair.ensures c.in_ok-push.ensures.items;
      grow = grow_then c.args.items.now old new before.grow of.grow;
      asks = λ count. steps_ask count c.args.items.now old new steps i step c.loop-step-test.true
          c.step-item.is (before.asks count) (of.asks count);
    }

pub returns-clause-asks : goal.returns-clause-asks
returns-clause-asks c count asks = c.loop-step.invariant.asks count
    (subst (StepsAsk count)
    (sym (take_all c.loop-step.step-index c.args.steps.now c.loop-step-test.false)) asks)
