use Rattle.std.proofs.Common.{◌≡◌, ◌<◌, ◌-◌, ◌^◌, ℕ, Some}
use Rattle.std.specs.List.{slice_get, All, Contains}
use Rattle.cd_explored.specs.Inner.Reached.{rows_of, AreMarked, IsLedTo, ReachesBy}
use Rattle.cd_explored.proofs.reach.reached.Given as goal

-- all that is there is reached, and what the first ones lead to is there
abbrev pub invariant-loop-number : goal.invariant-loop-number
invariant-loop-number l = record {
  marked : AreMarked l.marks.items l.all.items;
  begun : Contains l.all.items l.from;
  sound : All (ReachesBy (rows_of l.steps) l.variable l.from) l.all.items;
  whole : (k number next : ℕ) → k < l.done → slice_get l.all.items k ≡ Some number
      → IsLedTo (rows_of l.steps) l.variable number next → Contains l.all.items next;
}

abbrev pub decreases-loop-number : goal.decreases-loop-number
decreases-loop-number l = 2 ^ 64 - l.done
