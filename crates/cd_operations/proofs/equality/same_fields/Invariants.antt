use Rattle.std.proofs.Common.{length}
use Rattle.cd_cells.specs.Table.{table, names}
use Rattle.cd_operations.proofs.PairsCompared.{IsGoingOver}
use Rattle.cd_operations.proofs.equality.same_fields.Given as goal

abbrev pub invariant-loop-one : goal.invariant-loop-one
invariant-loop-one l =
    IsGoingOver (table l.values) (names l.values) l.fn.parts l.fn.others l.fn.pairs.items l.left l.right l.pairs.items

abbrev pub decreases-loop-one : goal.decreases-loop-one
decreases-loop-one l = length l.left
