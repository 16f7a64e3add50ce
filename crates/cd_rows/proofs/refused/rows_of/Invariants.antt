use Rattle.std.proofs.Common.{◌≡◌, ◌++◌, Bool, List, drop, map}
use Rattle.cd_sets.specs.declared.question.Question.{Question}
use Rattle.cd_needs.specs.RecordTypes.{plain_row}
use Rattle.cd_empty.specs.Seen.{graph_of}
use Rattle.cd_products.specs.Inner.After.{IsAfter}
use Rattle.cd_products.specs.Inner.Tests.{IsTest}
use Rattle.cd_rows.specs.Inner.PlainClauses.{plain_row_clause}
use Rattle.cd_rows.specs.Inner.Refining.{rows_of_clauses}
use Rattle.cd_rows.proofs.refused.rows_of.Given as goal

-- the rows so far, and those of the clauses that are left, are all
abbrev pub invariant-loop-clause : goal.invariant-loop-clause
invariant-loop-clause l = IsAfter l.fn.world l.world
    × ((test : List Question → Bool) → IsTest (graph_of l.fn.world) test
    → map plain_row l.all.items
    ++ rows_of_clauses test (map plain_row_clause (drop l.clause-index l.clauses))
    ≡ rows_of_clauses test (map plain_row_clause l.clauses))
