use Rattle.std.proofs.Common.{◌≡◌, ◌≤◌, false, length, map, drop}
use Rattle.cd_syntax.specs.TypeTree.{signs_of}
use Rattle.cd_syntax.specs.PlainTree.{plain_signed}
use Rattle.cd_variables.specs.Occurrences.{takes_away}
use Rattle.cd_variables.proofs.row.count_sides.Given as goal

-- none after these is taken away
abbrev pub invariant-loop-sides : goal.invariant-loop-sides
invariant-loop-sides l = (l.sides ≤ length l.items)
    × (takes_away (signs_of (map plain_signed (drop l.sides l.items))) ≡ false)

abbrev pub decreases-loop-sides : goal.decreases-loop-sides
decreases-loop-sides l = l.sides
