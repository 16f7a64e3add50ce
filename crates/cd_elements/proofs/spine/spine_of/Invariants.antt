use Rattle.std.proofs.Common.{◌≡◌, ◌++◌, map, length}
use Rattle.cd_model.specs.Canonical.{printed}
use Rattle.cd_elements.specs.Elements.{table}
use Rattle.cd_elements.specs.Table.{element_at}
use Rattle.cd_elements.specs.Inner.Tasks.{part_in}
use Rattle.cd_elements.proofs.spine.spine_of.Given as goal

-- the first parts so far, and what stands along the right of the next element, are all of the spine
abbrev pub invariant-along : goal.invariant-along
invariant-along l =
    let all = table l.elements in
    let left = (printed (element_at all l.next)).spine in
    let whole = (printed (element_at all l.fn.id)).spine in
    record {
      parts : map (part_in all) l.firsts.items ++ left.parts ≡ whole.parts;
      end : left.end ≡ whole.end;
    }

abbrev pub decreases-along : goal.decreases-along
decreases-along l = length (printed (element_at (table l.elements) l.next)).spine.parts
