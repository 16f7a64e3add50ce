use Rattle.std.proofs.Common.{◌≡◌, ◌++◌, Bool, List, drop, map}
use Rattle.cd_sets.specs.declared.question.Question.{Question}
use Rattle.cd_needs.specs.RecordTypes.{plain_row}
use Rattle.cd_empty.specs.Seen.{graph_of}
use Rattle.cd_products.specs.Inner.After.{IsAfter}
use Rattle.cd_products.specs.Inner.Tests.{IsTest}
use Rattle.cd_rows.specs.Inner.Refining.{keep}
use Rattle.cd_rows.proofs.witnesses.keep.Given as goal

-- the rows that were kept so far, and those that are kept of what is left, are all
abbrev pub invariant-loop-row : goal.invariant-loop-row
invariant-loop-row l = IsAfter l.fn.world l.world
    × ((test : List Question → Bool) → IsTest (graph_of l.fn.world) test
    → map plain_row l.kept.items ++ keep test (map plain_row (drop l.row-index l.rows))
    ≡ map plain_row l.fn.kept.items ++ keep test (map plain_row l.rows))
