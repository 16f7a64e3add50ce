use Rattle.cd_graph.specs.Nodes.{nodes}
use Rattle.cd_cells.specs.Table.{table, names}
use Rattle.cd_asking.specs.MappedArrows.{maps_at}
use Rattle.cd_asking.proofs.Stepping.{content_step}
use Rattle.cd_asking.proofs.step.ask_content.Goals as goal

pub returns-clause-step : goal.returns-clause-step
returns-clause-step c = content_step (names c.args.values.now) (nodes c.args.graph.now) (maps_at c.args.maps.now) (table c.args.values.now)
    c.args.asker.now c.xml_leads.new.self c.xml_leads.ensures.grows c.args.set c.in_ok-leads.leads.content c.requires.task.1 c.in_ok-leads.ensures.leads.2
    c.args.content c.args.known.0 c.args.known.1 c.requires.task.0 c.requires.task.2 c.requires.answer c.in_ok-leads.ensures.leads.5
