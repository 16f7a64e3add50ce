use Rattle.std.proofs.Common.{◌≡◌, Bool, List, drop, map}
use Rattle.cd_sets.specs.declared.question.Question.{Question}
use Rattle.cd_empty.specs.Seen.{graph_of}
use Rattle.cd_products.specs.QuestionBoxes.{question_pieces_of}
use Rattle.cd_products.specs.Inner.After.{IsAfter}
use Rattle.cd_products.specs.Inner.PlainBoxes.{plain_box}
use Rattle.cd_products.specs.Inner.Tests.{IsTest, AreOfGraph, refuse_rows}
use Rattle.cd_products.proofs.refused.pieces_of.Given as goal

-- the boxes less the rows that are left are those less all rows
abbrev pub invariant-loop-row : goal.invariant-loop-row
invariant-loop-row l = IsAfter l.fn.world l.world
    × ((test : List Question → Bool) → IsTest (graph_of l.fn.world) test
    → refuse_rows test (map (λ row. row.items) (drop l.row-index l.row-items)) l.boxes.items
    ≡ question_pieces_of test (plain_box l.clause))
    × AreOfGraph (graph_of l.fn.world) l.boxes.items
