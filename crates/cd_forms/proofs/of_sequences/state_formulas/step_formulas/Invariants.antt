use Rattle.std.proofs.Common.{ℕ, map, take}
use Rattle.std.specs.List.{AllZip}
use Rattle.cd_model.specs.AllOf.{AllOf}
use Rattle.cd_graph.specs.PlainFormula.{plain}
use Rattle.cd_rules.specs.Family.{AsksNodes}
use Rattle.cd_forms.specs.Inner.Numbered.{GrowTo}
use Rattle.cd_forms.specs.Inner.StateFormulas.{IsStepFormula, StepsAsk}
use Rattle.cd_forms.proofs.of_sequences.state_formulas.step_formulas.Given as goal

-- the formulas so far are those of the first steps
abbrev pub invariant-loop-step : goal.invariant-loop-step
invariant-loop-step l = record {
  made : AllZip (IsStepFormula l.first l.after l.items) (take l.step-index l.steps)
      (map plain l.members.items);
  grow : GrowTo l.fn.items l.items;
  asks : (count : ℕ) → StepsAsk count (take l.step-index l.steps)
      → AllOf (AsksNodes count) l.fn.items → AllOf (AsksNodes count) l.items;
}
