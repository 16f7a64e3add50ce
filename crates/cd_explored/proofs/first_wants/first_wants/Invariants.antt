use Rattle.std.proofs.Common.{◌≡◌, ◌<◌, ℕ, List, Some}
use Rattle.std.specs.List.{slice_get}
use Rattle.cd_explored.specs.Inner.Plan.{plain_plan}
use Rattle.cd_explored.specs.Inner.Wanted.{AreFirst, AreGatheredBy}
use Rattle.cd_explored.specs.declared.step.Step.{Step}
use Rattle.cd_explored.proofs.first_wants.first_wants.Given as goal

-- what is gathered at the first places is wanted
abbrev pub invariant-loop-row : goal.invariant-loop-row
invariant-loop-row l = record {
  first : AreFirst l.wants l.variables;
  gathered : (number : ℕ) (row : List Step) → number < l.row-index
      → slice_get (plain_plan l.plan).rows number ≡ Some row → AreGatheredBy l.wants row;
}
