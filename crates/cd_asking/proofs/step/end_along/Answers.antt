use Rattle.std.proofs.lemmas.Result.{IfOk-weaker}
use Rattle.cd_graph.specs.Nodes.{nodes}
use Rattle.cd_cells.specs.Looked.{looked}
use Rattle.cd_cells.specs.Table.{table, names}
use Rattle.cd_asking.specs.MappedArrows.{maps_at}
use Rattle.cd_asking.specs.Inner.Shapes.{shape_of}
use Rattle.cd_asking.specs.Inner.Asked.{set_at, Found, HasParts}
use Rattle.cd_asking.specs.declared.node_sets.SetId.{SetId}
use Rattle.cd_asking.specs.declared.task.Task.TheVariants.{OfPairs}
use Rattle.cd_asking.proofs.Stepping.{step_grows, at_once, some_found}
use Rattle.cd_asking.proofs.step.end_along.Goals as goal

-- the last second part answers at once
pub returns-in-Some-clause-goes : goal.returns-in-Some-clause-goes
returns-in-Some-clause-goes c =
    let Holds : SetId → Type 0 = Found (nodes c.args.graph.now)
    (shape_of (nodes c.args.graph.now) (maps_at c.args.maps.now) (looked (names c.args.values.now) (table c.args.values.now) c.look.result))
    (set_at c.args.asker.now.sets c.args.pair.0) c.leaf.new.asker.sets in
    let found = some_found c.in_ok-answer.field-0 (HasParts c.look.result) Holds c.in-Some.answer c.in-Some.is c.in_ok-answer.ensures.found in
    IfOk-weaker c.answer_pairs.result _ _ (λ next step nodes' work asked. at_once (names c.args.values.now) (nodes c.args.graph.now) (maps_at c.args.maps.now) (table c.args.values.now)
    c.args.asker.now c.leaf.new.asker c.answer_pairs.new.asker c.leaf.ensures.grows nodes' work c.args.id c.args.pair.0
    (OfPairs c.args.pair.0 c.args.pair.1 c.args.count) _ c.in-Some.answer next asked c.look.ensures.thing found step) c.answer_pairs.ensures.step

-- or it is asked
pub returns-in-None-clause-goes : goal.returns-in-None-clause-goes
returns-in-None-clause-goes c nodes' work step =
    step_grows (names c.args.values.now) (nodes c.args.graph.now) (maps_at c.args.maps.now) (table c.args.values.now) c.args.asker.now c.leaf.new.asker c.leaf.ensures.grows nodes' work _ step
