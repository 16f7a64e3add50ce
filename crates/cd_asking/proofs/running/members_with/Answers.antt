use Rattle.cd_graph.specs.Nodes.{nodes}
use Rattle.cd_cells.specs.Table.{table, names}
use Rattle.cd_asking.specs.MappedArrows.{maps_at}
use Rattle.cd_asking.proofs.InTurn.{asked, asked_falls, answered, answered_falls, last_is}
use Rattle.cd_asking.proofs.running.members_with.Goals as goal

pub loop-next-preserved-in-Ask : goal.loop-next-preserved-in-Ask
loop-next-preserved-in-Ask c = asked (names c.args.values.now) (nodes c.args.graph.now) (maps_at c.args.maps.now) (table c.args.values.now) c.args.asker.now _
    c.loop-next.asker c.ask-in-Ask.new.asker c.ask-in-Ask.ensures.grows c.ask-in-Ask.ensures.right c.loop-next.tasks.items c.put.new.tasks.items
    c.loop-next.next c.in-Ask.id c.in-Ask.set c.in-Ask.task c.in_ok-next-in-Ask.next c.loop-next.invariant c.in-Ask.is
    c.in_ok-put-in-Ask.ensures c.in_ok-next-in-Ask.ensures.step

pub loop-next-smaller-in-Ask : goal.loop-next-smaller-in-Ask
loop-next-smaller-in-Ask c = asked_falls (names c.args.values.now) (nodes c.args.graph.now) (maps_at c.args.maps.now) (table c.args.values.now) c.args.asker.now _
    c.loop-next.asker c.ask-in-Ask.new.asker c.ask-in-Ask.ensures.grows c.ask-in-Ask.ensures.right c.loop-next.tasks.items c.put.new.tasks.items
    c.loop-next.next c.in-Ask.id c.in-Ask.set c.in-Ask.task c.in_ok-next-in-Ask.next c.loop-next.invariant c.in-Ask.is
    c.in_ok-put-in-Ask.ensures c.in_ok-next-in-Ask.ensures.step

pub go_on-requires-clause-task : goal.go_on-requires-clause-task
go_on-requires-clause-task c = last_is (names c.args.values.now) (nodes c.args.graph.now) (maps_at c.args.maps.now) (table c.args.values.now) c.args.asker.now _
    c.loop-next.asker c.loop-next.tasks.items c.pop.new.self.items c.in-Some.task c.loop-next.next c.loop-next.invariant c.in-Some.ensures.items

pub loop-next-preserved : goal.loop-next-preserved
loop-next-preserved c = answered (names c.args.values.now) (nodes c.args.graph.now) (maps_at c.args.maps.now) (table c.args.values.now) c.args.asker.now _
    c.loop-next.asker c.go_on.new.asker c.go_on.ensures.grows c.go_on.ensures.right c.loop-next.tasks.items c.pop.new.self.items
    c.in-Some.task c.loop-next.next c.in-Answer.answer c.in_ok-next-in-Some.next c.loop-next.invariant c.in-Answer.is
    c.in-Some.ensures.items c.in_ok-next-in-Some.ensures.step

pub loop-next-smaller : goal.loop-next-smaller
loop-next-smaller c = answered_falls (names c.args.values.now) (nodes c.args.graph.now) (maps_at c.args.maps.now) (table c.args.values.now) c.args.asker.now _
    c.loop-next.asker c.go_on.new.asker c.go_on.ensures.grows c.go_on.ensures.right c.loop-next.tasks.items c.pop.new.self.items
    c.in-Some.task c.loop-next.next c.in-Answer.answer c.in_ok-next-in-Some.next c.loop-next.invariant c.in-Answer.is
    c.in-Some.ensures.items c.in_ok-next-in-Some.ensures.step
