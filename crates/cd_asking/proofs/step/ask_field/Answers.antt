use Rattle.cd_graph.specs.Nodes.{nodes}
use Rattle.cd_cells.specs.Table.{table, names}
use Rattle.cd_asking.specs.MappedArrows.{maps_at}
use Rattle.cd_asking.proofs.Stepping.{field_step}
use Rattle.cd_asking.proofs.step.ask_field.Goals as goal

pub returns-clause-step : goal.returns-clause-step
returns-clause-step c = field_step (names c.args.values.now) (nodes c.args.graph.now) (maps_at c.args.maps.now) (table c.args.values.now)
    c.args.asker.now c.lead.new.self c.lead.ensures.grows c.args.known.0 c.in_ok-next.next c.requires.set c.in_ok-next.ensures.within
    c.args.known.1 c.id.result c.args.field c.args.left c.id.ensures c.requires.field c.requires.left c.requires.row c.in_ok-next.ensures.covers
