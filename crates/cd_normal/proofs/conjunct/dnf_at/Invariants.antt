use Rattle.std.proofs.Common.{◌≡◌, ◌≤◌, drop, length}
use Rattle.cd_graph.specs.Nodes.{nodes}
use Rattle.cd_normal.specs.Inner.PlainConjunct.{plain_conjuncts}
use Rattle.cd_rules.specs.KindDnf.{kind_at}
use Rattle.cd_normal.specs.Inner.PlainKind.{plain_kind}
use Rattle.cd_normal.proofs.conjunct.dnf_at.Given as goal

-- the conjuncts are those of the nodes from the index on
abbrev pub invariant-loop-index : goal.invariant-loop-index
invariant-loop-index l =
    (l.index ≤ length l.ids) × (plain_conjuncts l.all.items ≡ kind_at (plain_kind l.kind) (nodes l.graph) (drop l.index l.ids) l.wanted)

abbrev pub decreases-loop-index : goal.decreases-loop-index
decreases-loop-index l = l.index
