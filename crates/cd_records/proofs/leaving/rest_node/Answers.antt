use Rattle.std.proofs.Common.{map}
use Rattle.cd_needs.specs.RecordTypes.{plain_row}
use Rattle.cd_empty.specs.Seen.{graph_of}
use Rattle.cd_records.proofs.RestNodes.{rest_empty}
use Rattle.cd_records.proofs.RowsThere.{no_rows}
use Rattle.cd_records.proofs.leaving.rest_node.Goals as goal

pub returns-in-empty-clause-holding : goal.returns-in-empty-clause-holding
returns-in-empty-clause-holding c = let known = c.graph.ensures in
    rest_empty (graph_of c.args.world.now) known.built_in.0 known.built_in.1 c.args.label.now
    c.requires.label (map plain_row c.args.rows.now) (no_rows c.args.rows.now c.in-empty.len_below)
