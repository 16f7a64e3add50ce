use Rattle.std.proofs.Common.{map, take}
use Rattle.std.specs.List.{AllZip}
use Rattle.cd_graph.specs.PlainFormula.{plain}
use Rattle.cd_explored.specs.Inner.Made.{IsMember}
use Rattle.cd_explored.specs.Inner.Plan.{plain_plan}
use Rattle.cd_explored.specs.Inner.Wanted.{GrowTo}
use Rattle.cd_explored.proofs.union.union_of.Given as goal

-- the members so far are what the first steps give
abbrev pub invariant-loop-giver : goal.invariant-loop-giver
invariant-loop-giver l = record {
  members : AllZip (IsMember (plain_plan l.plan) l.wants l.variable) (take l.giver-index l.givers)
      (map plain l.members.items);
  grow : GrowTo l.fn.wants l.wants;
}
