use Rattle.std.proofs.Common.{◌<◌, length}
use Rattle.cd_graph.specs.Nodes.{nodes}
use Rattle.cd_cells.specs.Table.{names}
use Rattle.cd_asking.specs.Inner.Asked.{set_at, Grows}
use Rattle.cd_asking.specs.Known.{KnowsOf}
use Rattle.cd_asking.proofs.Stepping.{Runs}
use Rattle.cd_asking.proofs.step.answer_pairs.Given as goal

abbrev pub invariant-loop : goal.invariant-loop
invariant-loop l = Grows l.fn.asker l.asker × KnowsOf (nodes l.graph) (names l.values) l.asker × (l.last.0 < length l.asker.sets)
    × Runs (nodes l.graph) (set_at l.fn.asker.sets l.set) (set_at l.fn.asker.sets l.first) l.count (set_at l.fn.asker.sets l.fn.answer)
    l.counter (set_at l.asker.sets l.last)
