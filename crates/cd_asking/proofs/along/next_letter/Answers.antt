use Rattle.std.proofs.Common.{sym, subst, arith}
use Rattle.cd_graph.specs.Nodes.{nodes}
use Rattle.cd_cells.specs.Table.{table, names}
use Rattle.cd_model.specs.Thing.{Thing}
use Rattle.cd_asking.specs.MappedArrows.{maps_at}
use Rattle.cd_asking.specs.Inner.Asked.{set_at, Found}
use Rattle.cd_asking.specs.Inner.Shapes.{shape_of}
use Rattle.cd_asking.proofs.GoingAlong.{one_more_alike}
use Rattle.cd_asking.proofs.Kept.{grows_none}
use Rattle.cd_asking.proofs.along.next_letter.Goals as goal

-- its nodes are the same
pub returns-in-Some-clause-goes : goal.returns-in-Some-clause-goes
returns-in-Some-clause-goes c =
    let graph = nodes c.args.graph.now in
    let closed = maps_at c.args.maps.now in
    let all = table c.args.values.now in
    let sets = c.args.asker.now.sets in
    let known = c.in-Some.ensures in
    let found = (c.requires.right.letters c.args.leads.first.0 c.in-Char.c c.in-Some.answer known.0 known.1).1 in
    let below = c.in-Pair.ensures.below.1 in
    let within = c.requires.value in
    one_more_alike (names c.args.values.now) graph closed all c.args.asker.now c.args.asker.now (grows_none c.args.asker.now) c.args.leads c.args.first
    c.args.id c.in-Pair.one c.in-Pair.second c.in-Some.answer c.requires.leads c.requires.first (omega (arith, below, within))
    (sym c.in-Pair.ensures.thing)
    (subst (λ (is : Thing). Found graph (shape_of graph closed is) (set_at sets c.args.leads.first) sets c.in-Some.answer) c.in-Char.ensures.thing found)
    c.if-answer-first.true
