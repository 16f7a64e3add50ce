use Rattle.std.proofs.lemmas.Result.{IfOk-weaker}
use Rattle.cd_graph.specs.Nodes.{nodes}
use Rattle.cd_cells.specs.Looked.{looked}
use Rattle.cd_cells.specs.Table.{table, names}
use Rattle.cd_asking.specs.MappedArrows.{maps_at}
use Rattle.cd_asking.specs.Inner.Shapes.{shape_of}
use Rattle.cd_asking.specs.Inner.Asked.{set_at, Found, HasParts}
use Rattle.cd_asking.specs.declared.node_sets.SetId.{SetId}
use Rattle.cd_asking.specs.declared.task.Task.TheVariants.{OfAttributes}
use Rattle.cd_asking.proofs.Stepping.{xml_step, step_grows, at_once, some_found}
use Rattle.cd_asking.proofs.step.ask_xml.Goals as goal

pub returns-in-Some-clause-step : goal.returns-in-Some-clause-step
returns-in-Some-clause-step c =
    let asked = xml_step (names c.args.values.now) (nodes c.args.graph.now) (maps_at c.args.maps.now) (table c.args.values.now)
    c.args.asker.now c.xml_leads.new.self c.xml_leads.ensures.grows c.args.set c.in_ok-leads.leads.tag c.requires.set c.in_ok-leads.ensures.leads.0
    c.args.tag c.args.rest.0 c.args.rest.1 c.requires.tag c.requires.attributes c.requires.content c.in_ok-leads.ensures.leads.3 in
    let Holds : SetId → Type 0 = Found (nodes c.args.graph.now)
    (shape_of (nodes c.args.graph.now) (maps_at c.args.maps.now) (looked (names c.args.values.now) (table c.args.values.now) c.look.result))
    (set_at c.xml_leads.new.self.sets c.in_ok-leads.leads.tag) c.leaf.new.asker.sets in
    let found = some_found c.in_ok-answer.field-0 (HasParts c.look.result) Holds c.in-Some.answer c.in-Some.is c.in_ok-answer.ensures.found in
    IfOk-weaker c.ask_attributes.result _ _ (λ next step. at_once (names c.args.values.now) (nodes c.args.graph.now) (maps_at c.args.maps.now) (table c.args.values.now)
    c.xml_leads.new.self c.leaf.new.asker c.ask_attributes.new.asker c.leaf.ensures.grows _ _ c.args.tag c.in_ok-leads.leads.tag (OfAttributes c.args.rest.0 c.args.rest.1 c.args.set)
    _ c.in-Some.answer next asked c.look.ensures.thing found step) c.ask_attributes.ensures.step

pub returns-in-None-clause-step : goal.returns-in-None-clause-step
returns-in-None-clause-step c = step_grows (names c.args.values.now) (nodes c.args.graph.now) (maps_at c.args.maps.now) (table c.args.values.now) c.xml_leads.new.self c.leaf.new.asker c.leaf.ensures.grows _ _ _
    (xml_step (names c.args.values.now) (nodes c.args.graph.now) (maps_at c.args.maps.now) (table c.args.values.now)
    c.args.asker.now c.xml_leads.new.self c.xml_leads.ensures.grows c.args.set c.in_ok-leads.leads.tag c.requires.set c.in_ok-leads.ensures.leads.0
    c.args.tag c.args.rest.0 c.args.rest.1 c.requires.tag c.requires.attributes c.requires.content c.in_ok-leads.ensures.leads.3)
