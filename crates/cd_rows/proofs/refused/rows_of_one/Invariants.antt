use Rattle.std.proofs.Common.{◌≡◌, Bool, List, drop, length, map}
use Rattle.cd_sets.specs.declared.question.Question.{Question}
use Rattle.cd_model.specs.AllOf.{AllOf}
use Rattle.cd_needs.specs.RecordTypes.{plain_row}
use Rattle.cd_empty.specs.Seen.{graph_of}
use Rattle.cd_products.specs.Inner.After.{IsAfter}
use Rattle.cd_products.specs.Inner.Tests.{IsTest}
use Rattle.cd_rows.specs.RecordRows.{RowAsksNodes}
use Rattle.cd_rows.specs.Inner.PlainClauses.{plain_row_clause, plain_types}
use Rattle.cd_rows.specs.Inner.Refining.{refuse_all, rows_of_clause}
use Rattle.cd_rows.proofs.refused.rows_of_one.Given as goal

-- the rows less the types that are left are those less all types
abbrev pub invariant-loop-fields : goal.invariant-loop-fields
invariant-loop-fields l = IsAfter l.fn.world l.world
    × ((test : List Question → Bool) → IsTest (graph_of l.fn.world) test
    → refuse_all test (plain_types (drop l.fields-index l.fields-items))
    (map plain_row l.rows.items)
    ≡ rows_of_clause test (plain_row_clause l.clause))
    × AllOf (RowAsksNodes (length (graph_of l.fn.world))) (map plain_row l.rows.items)
