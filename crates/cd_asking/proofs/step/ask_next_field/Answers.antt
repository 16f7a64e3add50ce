use Rattle.std.proofs.lemmas.Result.{IfOk-weaker}
use Rattle.cd_graph.specs.Nodes.{nodes}
use Rattle.cd_cells.specs.Table.{table, names}
use Rattle.cd_asking.specs.MappedArrows.{maps_at}
use Rattle.cd_asking.proofs.Stepping.{row_answered}
use Rattle.cd_asking.proofs.step.ask_next_field.Goals as goal

-- the row with the field has answered
pub returns-clause-step : goal.returns-clause-step
returns-clause-step c =
    IfOk-weaker c.ask_rest.result _ _ (row_answered (names c.args.values.now) (nodes c.args.graph.now) (maps_at c.args.maps.now) (table c.args.values.now) c.ask_rest.new.asker
    c.longer.new.self.sets c.args.asker.now.sets c.args.known.0 _ _ c.args.left.now c.longer.ensures.sets c.in_ok-row.ensures.found) c.ask_rest.ensures.step
