use Rattle.std.proofs.Common.{◌-◌, ◌^◌, ◌≤◌, length, map}
use Rattle.cd_graph.specs.PlainFormula.{plain}
use Rattle.cd_explored.specs.Inner.Made.{AreMade}
use Rattle.cd_explored.specs.Inner.Plan.{plain_plan}
use Rattle.cd_explored.specs.Inner.Wanted.{AreFirst, AreGathered}
use Rattle.cd_explored.proofs.formulas.formulas.Given as goal

-- the formulas so far are made for the first wants
abbrev pub invariant-loop-want : goal.invariant-loop-want
invariant-loop-want l = record {
  first : AreFirst l.wants l.variables;
  gathered : AreGathered l.wants (plain_plan l.plan).rows;
  made : AreMade (plain_plan l.plan) l.wants (map plain l.batch.items);
  count : length l.batch.items ≤ length l.wants;
}

abbrev pub decreases-loop-want : goal.decreases-loop-want
decreases-loop-want l = 2 ^ 64 - length l.batch.items
