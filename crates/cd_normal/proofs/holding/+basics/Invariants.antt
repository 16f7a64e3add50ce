use Rattle.std.proofs.Common.{map, drop}
use Rattle.cd_model.specs.Formula.{formulas_of}
use Rattle.cd_graph.specs.PlainFormula.{plain}
use Rattle.cd_graph.proofs.Sizes.{size, size_list}
use Rattle.cd_normal.proofs.Collected.{AreCollected, passes_each, passes_one}
use Rattle.cd_normal.proofs.holding.+basics.Given as goal

-- each formula is smaller than the one or the list that it stands in
abbrev pub decreases-of_formula : goal.decreases-of_formula
decreases-of_formula l = size (plain l.formula.now)

abbrev pub decreases-of_each : goal.decreases-of_each
decreases-of_each l = size_list (formulas_of (map plain l.formulas.now))

abbrev pub decreases-of_one : goal.decreases-of_one
decreases-of_one l = size_list (formulas_of (map plain l.formulas.now))

-- the sets so far, with those of the formulas that are left, are those of all
abbrev pub invariant-of_each-loop-formula : goal.invariant-of_each-loop-formula
invariant-of_each-loop-formula l =
    AreCollected passes_each (map plain l.formulas) (map plain (drop l.formula-index l.formulas)) l.sets.items

abbrev pub invariant-of_one-loop-formula : goal.invariant-of_one-loop-formula
invariant-of_one-loop-formula l =
    AreCollected passes_one (map plain l.formulas) (map plain (drop l.formula-index l.formulas)) l.sets.items
