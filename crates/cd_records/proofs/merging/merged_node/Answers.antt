use Rattle.std.proofs.Common.{map, inl, inr}
use Rattle.std.proofs.lemmas.Result.{IfOk-weaker}
use Rattle.cd_needs.specs.RecordTypes.{plain_row}
use Rattle.cd_empty.specs.Seen.{graph_of}
use Rattle.cd_records.proofs.MergedRecords as node
use Rattle.cd_records.proofs.RowsThere.{no_rows, some_rows}
use Rattle.cd_records.proofs.merging.merged_node.Goals as goal

pub returns-in-empty-clause-holding : goal.returns-in-empty-clause-holding
returns-in-empty-clause-holding c = let known = c.graph.ensures in
    node.merged_empty (graph_of c.args.world.now) known.built_in.0 known.built_in.1
    (map plain_row c.args.first.now) (map plain_row c.args.second.now)
    (inl (no_rows c.args.first.now c.in-empty.len_below))

pub returns-in-empty-second-clause-holding : goal.returns-in-empty-second-clause-holding
returns-in-empty-second-clause-holding c = let known = c.graph.ensures in
    node.merged_empty (graph_of c.args.world.now) known.built_in.0 known.built_in.1
    (map plain_row c.args.first.now) (map plain_row c.args.second.now)
    (inr (no_rows c.args.second.now c.in-empty-second.len_below))

pub returns-in-len1-up-second-clause-holding : goal.returns-in-len1-up-second-clause-holding
returns-in-len1-up-second-clause-holding c = let known = c.graph.ensures in
    IfOk-weaker c.put_merged.result _ _
    (λ id is. node.merged_node (graph_of c.args.world.now) known.built_in.0 known.built_in.1
    (map plain_row c.args.first.now) (map plain_row c.args.second.now)
    (some_rows c.args.first.now c.in-len1-up.len_at_least)
    (some_rows c.args.second.now c.in-len1-up-second.len_at_least)
    (graph_of c.put_merged.new.world) id is)
    c.put_merged.ensures.holding
