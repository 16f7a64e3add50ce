use Rattle.std.proofs.Common.{sym, subst, arith}
use Rattle.cd_graph.specs.Nodes.{nodes}
use Rattle.cd_cells.specs.Looked.{looked}
use Rattle.cd_cells.specs.Table.{table, names}
use Rattle.cd_model.specs.Thing.{Thing}
use Rattle.cd_asking.specs.MappedArrows.{maps_at}
use Rattle.cd_asking.specs.Inner.Asked.{set_at, Found, HasParts}
use Rattle.cd_asking.specs.Inner.Shapes.{shape_of}
use Rattle.cd_asking.specs.declared.node_sets.SetId.{SetId}
use Rattle.cd_asking.proofs.GoingAlong.{one_more_alike}
use Rattle.cd_asking.proofs.Stepping.{some_found}
use Rattle.cd_asking.proofs.along.next_alike.Goals as goal

pub returns-in-Some-2-clause-goes : goal.returns-in-Some-2-clause-goes
returns-in-Some-2-clause-goes c =
    let graph = nodes c.args.graph.now in
    let closed = maps_at c.args.maps.now in
    let all = table c.args.values.now in
    let Holds : SetId → Type 0 = Found graph (shape_of graph closed (looked (names c.args.values.now) all c.look-2.result))
    (set_at c.args.asker.now.sets c.args.leads.first) c.leaf.new.asker.sets in
    let found = some_found c.in_ok-answer.field-0 (HasParts c.look-2.result) Holds c.in-Some-2.answer c.in-Some-2.is c.in_ok-answer.ensures.found in
    let below = c.in-Pair.ensures.below.1 in
    let within = c.requires.value in
    one_more_alike (names c.args.values.now) graph closed all c.args.asker.now c.leaf.new.asker c.leaf.ensures.grows c.args.leads c.args.first
    c.args.id c.in-Pair.one c.in-Pair.second c.in-Some-2.answer c.requires.leads c.requires.first (omega (arith, below, within))
    (sym c.in-Pair.ensures.thing)
    (subst (λ (is : Thing). Found graph (shape_of graph closed is) (set_at c.args.asker.now.sets c.args.leads.first) c.leaf.new.asker.sets c.in-Some-2.answer) c.look-2.ensures.thing found)
    c.if-answer-first.true
