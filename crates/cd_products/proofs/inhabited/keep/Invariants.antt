use Rattle.std.proofs.Common.{◌≡◌, ◌++◌, Bool, List, drop}
use Rattle.cd_sets.specs.declared.question.Question.{Question}
use Rattle.cd_empty.specs.Seen.{graph_of}
use Rattle.cd_products.specs.Inner.After.{IsAfter}
use Rattle.cd_products.specs.Inner.Tests.{IsTest, keep_boxes}
use Rattle.cd_products.proofs.inhabited.keep.Given as goal

-- the boxes that were kept so far, and those that are kept of what is left, are all
abbrev pub invariant-loop-cells : goal.invariant-loop-cells
invariant-loop-cells l = IsAfter l.fn.world l.world
    × ((test : List Question → Bool) → IsTest (graph_of l.fn.world) test
    → l.kept.items ++ keep_boxes test (drop l.cells-index l.boxes)
    ≡ l.fn.kept.items ++ keep_boxes test l.boxes)
