use Rattle.std.proofs.Common.{◌≡◌, ◌≤◌, ◌++◌, map, drop, length}
use Rattle.cd_model.specs.Formula.{formulas_of}
use Rattle.cd_graph.specs.PlainFormula.{plain}
use Rattle.cd_rules.specs.PartialConjuncts.{each_signed}
use Rattle.cd_normal.specs.Inner.PlainPartial.{plain_left}
use Rattle.cd_normal.proofs.partial.add_each.Given as goal

-- the formulas from the index on stand before those that were left
abbrev pub invariant-loop-index : goal.invariant-loop-index
invariant-loop-index l =
    (l.index ≤ length l.formulas) × (plain_left l.left.items
    ≡ each_signed (formulas_of (map plain (drop l.index l.formulas))) l.wanted ++ plain_left l.fn.left.items)

abbrev pub decreases-loop-index : goal.decreases-loop-index
decreases-loop-index l = l.index
