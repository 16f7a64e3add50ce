use Rattle.std.proofs.Common.{[], ◌∷◌, ◌++◌, length, map, ap, ◌∙◌}
use Rattle.cd_needs.specs.RecordTypes.{plain_row}
use Rattle.cd_empty.specs.Seen.{graph_of}
use Rattle.cd_rows.specs.Inner.Refining.{keep}
use Rattle.cd_rows.proofs.KeptRows.{made_ask}
use Rattle.cd_rows.proofs.RowsOfGraphs.{keep_asks}
use Rattle.cd_rows.proofs.refused.first_row.Goals as goal

pub returns-clause-of_graph : goal.returns-clause-of_graph
returns-clause-of_graph c =
    let graph = graph_of c.args.world.now in
    let row = plain_row c.args.row.now in
    made_ask graph c.graph.ensures.built_in c.graph.ensures.sound
    (map plain_row c.keep_one.new.kept.items) (λ test. keep test (row ∷ []))
    (λ test is. c.in_ok-keep_one.ensures.exact test is
    ∙ ap (λ old. map plain_row old ++ keep test (row ∷ [])) c.new-rows.ensures.items)
    (λ test. keep_asks (length graph) test (row ∷ []) (c.requires, tt))
