use Rattle.std.proofs.lemmas.Result.{IfOk-weaker}
use Rattle.cd_asking.specs.MappedArrows.{maps_at}
use Rattle.cd_asking.proofs.GoingAlong.{leads_later}
use Rattle.cd_graph.specs.Nodes.{nodes}
use Rattle.cd_cells.specs.Looked.{looked}
use Rattle.cd_cells.specs.Table.{table, names}
use Rattle.cd_asking.specs.Inner.Shapes.{shape_of}
use Rattle.cd_asking.specs.Inner.Asked.{set_at, Found, HasParts}
use Rattle.cd_asking.specs.declared.node_sets.SetId.{SetId}
use Rattle.cd_asking.specs.declared.task.Task.TheVariants.{OfSecond}
use Rattle.cd_asking.proofs.Stepping.{pair_step, second_later, step_grows, at_once, some_found}
use Rattle.cd_asking.proofs.step.ask_pair.Goals as goal

pub returns-in-Some-clause-step : goal.returns-in-Some-clause-step
returns-in-Some-clause-step c =
    let asked = pair_step (names c.args.values.now) (nodes c.args.graph.now) (maps_at c.args.maps.now) (table c.args.values.now)
    c.args.asker.now c.pair_leads.new.self c.pair_leads.ensures.grows c.args.set c.in_ok-leads.leads.first c.requires.set c.in_ok-leads.ensures.leads.0
    c.args.first c.args.second c.requires.first c.requires.second c.in_ok-leads.ensures.leads.2 in
    let Holds : SetId → Type 0 = Found (nodes c.args.graph.now)
    (shape_of (nodes c.args.graph.now) (maps_at c.args.maps.now) (looked (names c.args.values.now) (table c.args.values.now) c.look.result))
    (set_at c.pair_leads.new.self.sets c.in_ok-leads.leads.first) c.leaf.new.asker.sets in
    let found = some_found c.in_ok-answer.field-0 (HasParts c.look.result) Holds c.in-Some.answer c.in-Some.is c.in_ok-answer.ensures.found in
    IfOk-weaker c.ask_along.result _ _ (λ next goes. goes _ _ (at_once (names c.args.values.now) (nodes c.args.graph.now) (maps_at c.args.maps.now) (table c.args.values.now)
    c.pair_leads.new.self c.leaf.new.asker c.leaf.new.asker c.leaf.ensures.grows _ _ c.args.first c.in_ok-leads.leads.first
    (OfSecond c.args.second c.args.set) _ c.in-Some.answer _ asked c.look.ensures.thing found
    (second_later (names c.args.values.now) (nodes c.args.graph.now) (maps_at c.args.maps.now) (table c.args.values.now) c.args.asker.now c.pair_leads.new.self
    c.leaf.new.asker c.pair_leads.ensures.grows c.leaf.ensures.grows c.args.set c.in_ok-leads.leads.second c.requires.set
    c.in_ok-leads.ensures.leads.1 c.args.second c.in-Some.answer c.requires.second found.0 c.in_ok-leads.ensures.leads.3)))
    c.ask_along.ensures.goes

pub ask_along-requires-clause-leads : goal.ask_along-requires-clause-leads
ask_along-requires-clause-leads c = leads_later (nodes c.args.graph.now) c.args.asker.now.sets c.pair_leads.new.self.sets c.leaf.new.asker.sets
    c.pair_leads.ensures.grows.0 c.leaf.ensures.grows.0 c.args.set c.requires.set c.in_ok-leads.leads c.in_ok-leads.ensures.leads

pub returns-in-None-clause-step : goal.returns-in-None-clause-step
returns-in-None-clause-step c = step_grows (names c.args.values.now) (nodes c.args.graph.now) (maps_at c.args.maps.now) (table c.args.values.now) c.pair_leads.new.self c.leaf.new.asker c.leaf.ensures.grows _ _ _
    (pair_step (names c.args.values.now) (nodes c.args.graph.now) (maps_at c.args.maps.now) (table c.args.values.now)
    c.args.asker.now c.pair_leads.new.self c.pair_leads.ensures.grows c.args.set c.in_ok-leads.leads.first c.requires.set c.in_ok-leads.ensures.leads.0
    c.args.first c.args.second c.requires.first c.requires.second c.in_ok-leads.ensures.leads.2)
