use Rattle.std.proofs.Common.{◌≡◌, ◌≤◌, ◌++◌, map, drop, length}
use Rattle.cd_model.specs.Formula.{formulas_of}
use Rattle.cd_graph.specs.PlainFormula.{plain}
use Rattle.cd_rules.specs.PartialConjuncts.{each_signed}
use Rattle.cd_normal.specs.Inner.NextConjuncts.{with_each}
use Rattle.cd_normal.specs.Inner.PlainPartial.{plain_partial, plain_partials}
use Rattle.cd_normal.proofs.going_on.ask_copies.Given as goal

-- the conjuncts for the formulas from the index on stand on the others
abbrev pub invariant-loop-index : goal.invariant-loop-index
invariant-loop-index l =
    (l.index ≤ length l.formulas) × (plain_partials l.conjuncts.items
    ≡ with_each (each_signed (formulas_of (map plain (drop l.index l.formulas))) l.wanted) (plain_partial l.top)
    ++ plain_partials l.fn.conjuncts.items)

abbrev pub decreases-loop-index : goal.decreases-loop-index
decreases-loop-index l = l.index
