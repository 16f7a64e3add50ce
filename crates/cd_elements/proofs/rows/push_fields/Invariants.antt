use Rattle.std.proofs.Common.{◌≤◌, map, drop, length}
use Rattle.cd_elements.specs.Inner.Tasks.{Puts}
use Rattle.cd_elements.specs.Inner.Rows.{each_after, part_text_in}
use Rattle.cd_elements.proofs.rows.push_fields.Given as goal

-- those from the index on are put before what was left
abbrev pub invariant-loop-index : goal.invariant-loop-index
invariant-loop-index l =
    (l.index ≤ length l.parts)
    × Puts (λ table. each_after l.mark (map (part_text_in table) (drop l.index l.parts))) l.fn.tasks l.tasks

abbrev pub decreases-loop-index : goal.decreases-loop-index
decreases-loop-index l = l.index
