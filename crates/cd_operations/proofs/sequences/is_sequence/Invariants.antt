use Rattle.std.proofs.Common.{◌<◌, Bool, length}
use Rattle.cd_cells.specs.Cells.{thing_at}
use Rattle.cd_cells.specs.Table.{table}
use Rattle.cd_operations.specs.Inner.Joins.{IsAnswer}
use Rattle.cd_operations.proofs.sequences.is_sequence.Given as goal

-- the answer for the rest is that for the whole
abbrev pub invariant-loop-next : goal.invariant-loop-next
invariant-loop-next l = record {
  within : l.rest.0 < length (table l.values);
  leads : (is : Bool) → IsAnswer (thing_at (table l.values) l.rest.0) is → IsAnswer (thing_at (table l.values) l.fn.value.0) is;
}

abbrev pub decreases-loop-next : goal.decreases-loop-next
decreases-loop-next l = l.rest.0
