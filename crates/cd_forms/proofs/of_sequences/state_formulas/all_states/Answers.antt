use Rattle.std.proofs.Common.{map, sym, ap, subst}
use Rattle.std.proofs.lemmas.List.{take_all}
use Rattle.cd_graph.specs.PlainFormula.{plain}
use Rattle.cd_forms.specs.Inner.StateFormulas.{StatesAsk}
use Rattle.cd_forms.specs.Inner.States.{plain_state}
use Rattle.cd_forms.proofs.StateFormulasMade.{states_more, states_ask}
use Rattle.cd_forms.proofs.of_sequences.state_formulas.all_states.Goals as goal

-- one state more
pub loop-state-preserved : goal.loop-state-preserved
loop-state-preserved c =
    let states = c.args.states.now in
    let i = c.loop-state.state-index in
    let state = c.state-item.result in
    let old = c.loop-state.items in
    let new = c.state_formula.new.items in
    let before = c.loop-state.invariant in
    let of = c.in_ok-state_formula.ensures in record {
      made = states_more c.args.first c.args.after old new of.grow (plain c.args.end.now) states i
          state c.loop-state.made.items c.push.new.self.items c.in_ok-state_formula.field-0
          c.loop-state-test.true c.state-item.is before.made of.made c.in_ok-push.ensures.items;
      asks = λ count. states_ask count c.args.items.now old new states i state
          c.loop-state-test.true c.state-item.is (before.asks count) (of.asks count);
    }

pub returns-clause-asks : goal.returns-clause-asks
returns-clause-asks c count asks = c.loop-state.invariant.asks count
    (subst (StatesAsk count) (sym (ap (map plain_state)
    (take_all c.loop-state.state-index c.args.states.now c.loop-state-test.false))) asks)
