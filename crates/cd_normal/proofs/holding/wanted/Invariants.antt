use Rattle.std.proofs.Common.{◌≤◌, drop, length}
use Rattle.cd_graph.specs.Nodes.{nodes}
use Rattle.cd_rules.specs.BasicSets.{in_all}
use Rattle.cd_normal.specs.Inner.ExactSets.{AreExact}
use Rattle.cd_normal.proofs.holding.wanted.Given as goal

-- the sets are those of the nodes from the index on
abbrev pub invariant-loop-index : goal.invariant-loop-index
invariant-loop-index l =
    (l.index ≤ length l.ids) × AreExact (λ test. in_all test (nodes l.graph) (drop l.index l.ids)) l.all

abbrev pub decreases-loop-index : goal.decreases-loop-index
decreases-loop-index l = l.index
