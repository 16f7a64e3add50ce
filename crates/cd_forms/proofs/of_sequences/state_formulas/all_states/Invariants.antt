use Rattle.std.proofs.Common.{ℕ, map, take}
use Rattle.std.specs.List.{AllZip}
use Rattle.cd_model.specs.AllOf.{AllOf}
use Rattle.cd_graph.specs.PlainFormula.{plain}
use Rattle.cd_rules.specs.Family.{AsksNodes}
use Rattle.cd_forms.specs.Inner.StateFormulas.{IsStateFormula, StatesAsk}
use Rattle.cd_forms.specs.Inner.States.{plain_state}
use Rattle.cd_forms.proofs.of_sequences.state_formulas.all_states.Given as goal

-- the formulas so far are those of the first states
abbrev pub invariant-loop-state : goal.invariant-loop-state
invariant-loop-state l = record {
  made : AllZip (IsStateFormula l.first l.after l.items (plain l.end))
      (map plain_state (take l.state-index l.states)) (map plain l.made.items);
  asks : (count : ℕ) → StatesAsk count (map plain_state (take l.state-index l.states))
      → AllOf (AsksNodes count) l.fn.items → AllOf (AsksNodes count) l.items;
}
