use Rattle.std.proofs.Common.{◌≡◌, ◌++◌, drop}
use Rattle.cd_products.specs.QuestionBoxes.{pairs_of}
use Rattle.cd_products.proofs.of_pairs.pairs_in.Given as goal

-- those so far, and those of the boxes that are left, are all
abbrev pub invariant-loop-cells : goal.invariant-loop-cells
invariant-loop-cells l =
    l.pairs.items ++ pairs_of (drop l.cells-index l.boxes) ≡ pairs_of l.boxes
