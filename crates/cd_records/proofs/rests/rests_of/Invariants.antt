use Rattle.std.proofs.Common.{◌++◌, List, drop, map}
use Rattle.cd_needs.specs.RecordTypes.{plain_row}
use Rattle.cd_empty.specs.Seen.{graph_of}
use Rattle.cd_products.specs.Inner.After.{IsAfter}
use Rattle.cd_records.specs.Inner.Plain.{plain_rest}
use Rattle.cd_records.specs.Inner.Rests.{AreRests, Rest}
use Rattle.cd_records.proofs.rests.rests_of.Given as goal

-- the rests so far, and those of the rows that are left, are all
abbrev pub invariant-loop-row : goal.invariant-loop-row
invariant-loop-row l = record {
  after : IsAfter l.fn.world l.world;
  rests : (later : List Rest)
      → AreRests (graph_of l.fn.world) l.label (map plain_row (drop l.row-index l.rows)) later
      → AreRests (graph_of l.fn.world) l.label (map plain_row l.rows)
      (map plain_rest l.rests.items ++ later);
}
