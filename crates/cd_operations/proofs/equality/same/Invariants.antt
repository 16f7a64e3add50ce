use Rattle.cd_cells.specs.Cells.{thing_at}
use Rattle.cd_cells.specs.Table.{table}
use Rattle.cd_operations.specs.Inner.Comparing.{weight_of_pairs}
use Rattle.cd_operations.proofs.PairsCompared.{IsComparing}
use Rattle.cd_operations.proofs.equality.same.Given as goal

abbrev pub invariant-loop-one : goal.invariant-loop-one
invariant-loop-one l =
    IsComparing (table l.values) (thing_at (table l.values) l.fn.left.0) (thing_at (table l.values) l.fn.right.0) l.pairs.items

abbrev pub decreases-loop-one : goal.decreases-loop-one
decreases-loop-one l = weight_of_pairs (table l.values) l.pairs.items
