use Rattle.std.proofs.Common.{◌≡◌, ◌++◌, Bool, List, drop, map}
use Rattle.cd_sets.specs.declared.question.Question.{Question}
use Rattle.cd_needs.specs.RecordType.{record_type}
use Rattle.cd_needs.specs.RecordTypes.{plain_row}
use Rattle.cd_empty.specs.Seen.{graph_of}
use Rattle.cd_products.specs.Inner.After.{IsAfter}
use Rattle.cd_products.specs.Inner.Tests.{IsTest}
use Rattle.cd_rows.specs.Inner.Refining.{refuse}
use Rattle.cd_rows.proofs.refused.refuse.Given as goal

-- the rows so far, and those of what is left less the type, are all
abbrev pub invariant-loop-row : goal.invariant-loop-row
invariant-loop-row l = IsAfter l.fn.world l.world
    × ((test : List Question → Bool) → IsTest (graph_of l.fn.world) test
    → map plain_row l.found.items
    ++ refuse test (record_type l.refused) (map plain_row (drop l.row-index l.rows))
    ≡ refuse test (record_type l.refused) (map plain_row l.rows))
