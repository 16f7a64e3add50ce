use Rattle.std.proofs.Common.{◌≤◌, length, drop}
use Rattle.cd_resolved.specs.Inner.ByPlace.{AreByPlace, HaveNumbers}
use Rattle.cd_resolved.specs.Inner.PlainParts.{functions_of}
use Rattle.cd_resolved.proofs.parts.functions.by_place.Given as goal

-- those from here on are in their slots, with their numbers
abbrev pub invariant-loop-index : goal.invariant-loop-index
invariant-loop-index l = (l.index ≤ length l.all)
    × AreByPlace (functions_of (drop l.index l.all)) l.slots
    × HaveNumbers (functions_of l.all) l.slots

abbrev pub decreases-loop-index : goal.decreases-loop-index
decreases-loop-index l = l.index
