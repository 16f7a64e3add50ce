use Rattle.cd_graph.specs.Nodes.{nodes}
use Rattle.cd_cells.specs.Table.{table, names}
use Rattle.cd_asking.specs.MappedArrows.{maps_at}
use Rattle.cd_asking.specs.Inner.Along.{IsAlong}
use Rattle.cd_asking.specs.Known.{KnowsOf}
use Rattle.cd_asking.proofs.along.along.Given as goal

-- so many pairs were gone along
abbrev pub invariant-loop-count : goal.invariant-loop-count
invariant-loop-count l = KnowsOf (nodes l.graph) (names l.values) l.asker
    × IsAlong (names l.values) (nodes l.graph) (maps_at l.maps) (table l.values) l.fn.asker l.asker l.leads l.first l.fn.id l.id l.count
