use Rattle.std.proofs.Common.{◌≤◌, map, drop, length}
use Rattle.cd_elements.specs.declared.task.Mark.TheVariants.{Comma}
use Rattle.cd_elements.specs.Inner.Tasks.{text_in, Puts}
use Rattle.cd_elements.specs.Inner.Rows.{each_after}
use Rattle.cd_elements.proofs.rows.push_elements.Given as goal

-- those from the index on are put before what was left
abbrev pub invariant-loop-index : goal.invariant-loop-index
invariant-loop-index l =
    (l.index ≤ length l.ids)
    × Puts (λ table. each_after Comma (map (text_in table) (drop l.index l.ids))) l.fn.tasks l.tasks

abbrev pub decreases-loop-index : goal.decreases-loop-index
decreases-loop-index l = l.index
