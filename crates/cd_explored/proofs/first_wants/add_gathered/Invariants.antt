use Rattle.std.proofs.Common.{take}
use Rattle.cd_explored.specs.Inner.Wanted.{GrowTo, AreGatheredBy}
use Rattle.cd_explored.proofs.first_wants.add_gathered.Given as goal

-- what the steps so far gather is wanted
abbrev pub invariant-loop-step : goal.invariant-loop-step
invariant-loop-step l = record {
  gathered : AreGatheredBy l.wants (take l.step-index l.row);
  grow : GrowTo l.fn.wants l.wants;
}
