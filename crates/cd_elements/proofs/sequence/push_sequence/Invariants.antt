use Rattle.std.proofs.Common.{◌≡◌, ◌≤◌, ◌++◌, map, drop, length}
use Rattle.std.specs.Prelude.{codes}
use Rattle.cd_model.specs.Canonical.{pieces_of}
use Rattle.cd_elements.specs.Elements.{table}
use Rattle.cd_elements.specs.Inner.Tasks.{tasks_text, part_in}
use Rattle.cd_elements.specs.Inner.Sequences.{opening, edge_of, pieces_text}
use Rattle.cd_elements.proofs.sequence.push_sequence.Given as goal

-- the parts from the index on are put, but for a quote before them
abbrev pub invariant-loop-index : goal.invariant-loop-index
invariant-loop-index l =
    let all = table l.elements in
    let pieces = pieces_of (map (part_in all) (drop l.index l.firsts)) in
    let rest = codes "]" ++ tasks_text all l.fn.tasks in
    record {
      within : l.index ≤ length l.firsts;
      edge : l.edge ≡ edge_of pieces;
      text : opening (edge_of pieces) ++ tasks_text all l.tasks ≡ pieces_text pieces ++ rest;
    }

abbrev pub decreases-loop-index : goal.decreases-loop-index
decreases-loop-index l = l.index
