use Rattle.std.proofs.Common.{◌≤◌, length, map, drop}
use Rattle.cd_program.specs.PlainExpr.{plain_function}
use Rattle.cd_resolved.specs.Inner.ByPlace.{AreByName}
use Rattle.cd_resolved.proofs.parts.functions.by_name.Given as goal

-- those from here on have their places
abbrev pub invariant-loop-index : goal.invariant-loop-index
invariant-loop-index l = (l.index ≤ length l.functions)
    × AreByName (map plain_function (drop l.index l.functions)) l.places

abbrev pub decreases-loop-index : goal.decreases-loop-index
decreases-loop-index l = l.index
