use Rattle.std.proofs.Common.{ℕ, take}
use Rattle.std.specs.List.{Contains}
use Rattle.cd_explored.specs.Inner.Reached.{AreMarked, Adds, IsLedBy}
use Rattle.cd_explored.proofs.reach.add_led.Given as goal

-- the places that the steps so far lead to are added
abbrev pub invariant-loop-step : goal.invariant-loop-step
invariant-loop-step l = record {
  marked : AreMarked l.marks.items l.all.items;
  more : Adds (IsLedBy l.variable l.row) l.fn.all.items l.all.items;
  whole : (next : ℕ) → IsLedBy l.variable (take l.step-index l.row) next → Contains l.all.items next;
}
