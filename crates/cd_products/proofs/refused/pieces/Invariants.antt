use Rattle.std.proofs.Common.{◌≡◌, ◌++◌, Bool, List, drop, map}
use Rattle.cd_sets.specs.declared.question.Question.{Question}
use Rattle.cd_empty.specs.Seen.{graph_of}
use Rattle.cd_products.specs.QuestionBoxes.{question_pieces}
use Rattle.cd_products.specs.Inner.After.{IsAfter}
use Rattle.cd_products.specs.Inner.PlainBoxes.{plain_box}
use Rattle.cd_products.specs.Inner.Tests.{IsTest}
use Rattle.cd_products.proofs.refused.pieces.Given as goal

-- the pieces so far, and those of the clauses that are left, are all
abbrev pub invariant-loop-clause : goal.invariant-loop-clause
invariant-loop-clause l = IsAfter l.fn.world l.world
    × ((test : List Question → Bool) → IsTest (graph_of l.fn.world) test
    → l.all.items ++ question_pieces test (map plain_box (drop l.clause-index l.clauses))
    ≡ question_pieces test (map plain_box l.clauses))
