use Rattle.std.proofs.Common.{◌≤◌, map, drop, length}
use Rattle.cd_elements.specs.declared.task.Mark.TheVariants.{Semicolon}
use Rattle.cd_elements.specs.Inner.Tasks.{Puts}
use Rattle.cd_elements.specs.Inner.Rows.{each_after, pair_text_in}
use Rattle.cd_elements.proofs.rows.push_pairs.Given as goal

-- those from the index on are put before what was left
abbrev pub invariant-loop-index : goal.invariant-loop-index
invariant-loop-index l =
    (l.index ≤ length l.pairs)
    × Puts (λ table. each_after Semicolon (map (pair_text_in table) (drop l.index l.pairs))) l.fn.tasks l.tasks

abbrev pub decreases-loop-index : goal.decreases-loop-index
decreases-loop-index l = l.index
