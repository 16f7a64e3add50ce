use Rattle.std.proofs.lemmas.Result.{IfOk-weaker}
use Rattle.cd_graph.specs.Nodes.{nodes}
use Rattle.cd_cells.specs.Table.{table, names}
use Rattle.cd_asking.specs.MappedArrows.{maps_at}
use Rattle.cd_asking.proofs.GoingAlong.{leads_later}
use Rattle.cd_asking.proofs.Kept.{grown_none}
use Rattle.cd_asking.proofs.Stepping.{second_step}
use Rattle.cd_asking.proofs.step.ask_second.Goals as goal

pub ask_along-requires-clause-leads : goal.ask_along-requires-clause-leads
ask_along-requires-clause-leads c = leads_later (nodes c.args.graph.now) c.args.asker.now.sets c.pair_leads.new.self.sets c.pair_leads.new.self.sets
    c.pair_leads.ensures.grows.0 (grown_none c.pair_leads.new.self.sets) c.args.set c.requires.task.1 c.in_ok-leads.leads c.in_ok-leads.ensures.leads

pub returns-clause-step : goal.returns-clause-step
returns-clause-step c = IfOk-weaker c.ask_along.result _ _ (λ next goes. goes _ _ (second_step (names c.args.values.now) (nodes c.args.graph.now) (maps_at c.args.maps.now)
    (table c.args.values.now) c.args.asker.now c.pair_leads.new.self c.pair_leads.ensures.grows c.args.set c.in_ok-leads.leads.second
    c.requires.task.1 c.in_ok-leads.ensures.leads.1 c.args.second c.args.first c.requires.task.0 c.requires.answer c.in_ok-leads.ensures.leads.3))
    c.ask_along.ensures.goes
