use Rattle.std.proofs.Common.{◌≡◌, ◌++◌, drop}
use Rattle.cd_products.specs.QuestionBoxes.{triples_of}
use Rattle.cd_products.proofs.of_xmls.triples_in.Given as goal

-- those so far, and those of the boxes that are left, are all
abbrev pub invariant-loop-cells : goal.invariant-loop-cells
invariant-loop-cells l =
    l.triples.items ++ triples_of (drop l.cells-index l.boxes) ≡ triples_of l.boxes
