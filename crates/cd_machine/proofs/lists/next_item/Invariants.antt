use Rattle.std.proofs.Common.{◌≡◌, ◌<◌, length, map}
use Rattle.cd_program.specs.Expr.{items_of}
use Rattle.cd_program.specs.PlainExpr.{plain_item}
use Rattle.cd_cells.specs.Cells.{thing_at}
use Rattle.cd_cells.specs.Table.{table, Grows}
use Rattle.cd_evaluation.specs.Environment.{Env}
use Rattle.cd_operations.specs.Along.{items_along}
use Rattle.cd_machine.specs.Inner.Entering.{items_turn}
use Rattle.cd_machine.proofs.lists.next_item.Given as goal

-- what is left goes where all items go
abbrev pub invariant-loop-left : goal.invariant-loop-left
invariant-loop-left l = record {
  within : l.done.0 < length (table l.values);
  grows : Grows l.fn.values l.values;
  next : (e : Env) → items_turn (items_of (map plain_item l.left)) e (items_along (thing_at (table l.values) l.done.0))
      ≡ items_turn (items_of (map plain_item l.fn.items)) e (items_along (thing_at (table l.fn.values) l.fn.done.0));
}

abbrev pub decreases-loop-left : goal.decreases-loop-left
decreases-loop-left l = length l.left
