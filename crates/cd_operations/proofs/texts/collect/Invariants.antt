use Rattle.cd_cells.specs.Cells.{thing_at}
use Rattle.cd_cells.specs.Table.{table}
use Rattle.cd_operations.proofs.CharactersRead.{IsReadingText}
use Rattle.cd_operations.proofs.texts.collect.Given as goal

abbrev pub invariant-loop-first : goal.invariant-loop-first
invariant-loop-first l = IsReadingText (table l.values) (thing_at (table l.values) l.fn.value.0) l.left.0 l.text.items

abbrev pub decreases-loop-first : goal.decreases-loop-first
decreases-loop-first l = l.left.0
