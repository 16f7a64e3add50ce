use Rattle.cd_graph.specs.Nodes.{nodes}
use Rattle.cd_cells.specs.Cells.{thing_at}
use Rattle.cd_cells.specs.Table.{table, names}
use Rattle.cd_asking.specs.MappedArrows.{maps_at}
use Rattle.cd_asking.specs.Inner.Shapes.{members, shape_of}
use Rattle.cd_asking.specs.Inner.Asked.{set_at}
use Rattle.cd_asking.specs.Inner.Running.{IsRunning, steps_left}
use Rattle.cd_asking.proofs.running.members_with.Given as goal

abbrev pub invariant-loop-next : goal.invariant-loop-next
invariant-loop-next l =
    IsRunning (names l.values) (nodes l.graph) (maps_at l.maps) (table l.values) l.fn.asker
    (members (nodes l.graph) (shape_of (nodes l.graph) (maps_at l.maps) (thing_at (table l.values) l.fn.id.0)) (set_at l.fn.asker.sets l.fn.set))
    l.asker l.tasks.items l.next

abbrev pub decreases-loop-next : goal.decreases-loop-next
decreases-loop-next l = steps_left (names l.values) (table l.values) l.asker l.tasks.items l.next
