use Rattle.std.proofs.Common.{◌≤◌, ◌&&◌, drop, length}
use Rattle.cd_graph.specs.Nodes.{nodes}
use Rattle.cd_rules.specs.BasicSets.{in_none}
use Rattle.cd_normal.specs.Inner.ExactSets.{AreExact, Passing}
use Rattle.cd_normal.proofs.holding.without.Given as goal

-- what is in a node from the index on is taken from the sets
abbrev pub invariant-loop-index : goal.invariant-loop-index
invariant-loop-index l = (l.index ≤ length l.ids)
    × ((passing : Passing) → AreExact passing l.fn.sets
    → AreExact (λ test. passing test && in_none test (nodes l.graph) (drop l.index l.ids)) l.left)

abbrev pub decreases-loop-index : goal.decreases-loop-index
decreases-loop-index l = l.index
