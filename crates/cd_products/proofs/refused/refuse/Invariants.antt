use Rattle.std.proofs.Common.{◌≡◌, ◌++◌, Bool, List, drop}
use Rattle.cd_sets.specs.declared.question.Question.{Question}
use Rattle.cd_empty.specs.Seen.{graph_of}
use Rattle.cd_products.specs.Inner.After.{IsAfter}
use Rattle.cd_products.specs.Inner.Tests.{IsTest, refuse_row}
use Rattle.cd_products.proofs.refused.refuse.Given as goal

-- the boxes so far, and those of what is left less the row, are all
abbrev pub invariant-loop-cells : goal.invariant-loop-cells
invariant-loop-cells l = IsAfter l.fn.world l.world
    × ((test : List Question → Bool) → IsTest (graph_of l.fn.world) test
    → l.found.items ++ refuse_row test l.row (drop l.cells-index l.boxes)
    ≡ refuse_row test l.row l.boxes)
