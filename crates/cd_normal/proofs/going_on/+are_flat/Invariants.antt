use Rattle.std.proofs.Common.{◌≡◌, map, drop}
use Rattle.cd_model.specs.Formula.{formulas_of}
use Rattle.cd_graph.specs.PlainFormula.{plain, plain_formulas}
use Rattle.cd_graph.proofs.Sizes.{size, size_list}
use Rattle.cd_normal.specs.Inner.NextConjuncts.{are_flat}
use Rattle.cd_normal.proofs.going_on.+are_flat.Given as goal

-- each formula is smaller than the one or the list that it stands in
abbrev pub decreases-is_flat : goal.decreases-is_flat
decreases-is_flat l = size (plain l.formula.now)

abbrev pub decreases-are_flat : goal.decreases-are_flat
decreases-are_flat l = size_list (plain_formulas l.formulas.now)

-- it depends on the formulas that are left
abbrev pub invariant-are_flat-loop-formula : goal.invariant-are_flat-loop-formula
invariant-are_flat-loop-formula l =
    are_flat (formulas_of (map plain (drop l.formula-index l.formula-items))) ≡ are_flat (plain_formulas l.formulas)
