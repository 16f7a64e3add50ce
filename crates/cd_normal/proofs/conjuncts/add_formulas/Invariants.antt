use Rattle.std.proofs.Common.{◌≡◌, ◌≤◌, ◌++◌, map, drop, length}
use Rattle.cd_graph.specs.Nodes.{nodes}
use Rattle.cd_model.specs.Formula.{formula_at}
use Rattle.cd_normal.specs.Inner.PlainPartial.{plain_left}
use Rattle.cd_normal.proofs.conjuncts.add_formulas.Given as goal

-- the formulas of the nodes from the index on stand before the others
abbrev pub invariant-loop-index : goal.invariant-loop-index
invariant-loop-index l =
    (l.index ≤ length l.ids) × (plain_left l.left.items
    ≡ map (λ id. (formula_at (nodes l.graph) id, l.wanted)) (drop l.index l.ids) ++ plain_left l.fn.left.items)

abbrev pub decreases-loop-index : goal.decreases-loop-index
decreases-loop-index l = l.index
