use Rattle.std.proofs.Common.{◌≡◌, map, drop}
use Rattle.cd_model.specs.Formula.{formulas_of}
use Rattle.cd_graph.specs.PlainFormula.{plain, plain_formulas}
use Rattle.cd_graph.proofs.Sizes.{size, size_list}
use Rattle.cd_closures.specs.Inner.Collected.{with_all}
use Rattle.cd_closures.proofs.collecting.+add_arrows.Given as goal

-- each formula is smaller than the one or the list that it stands in
abbrev pub decreases-add_arrows : goal.decreases-add_arrows
decreases-add_arrows l = size (plain l.formula.now)

abbrev pub decreases-add_all : goal.decreases-add_all
decreases-add_all l = size_list (plain_formulas l.formulas.now)

-- these and those of the formulas that are left are all
abbrev pub invariant-add_all-loop-formula : goal.invariant-add_all-loop-formula
invariant-add_all-loop-formula l =
    with_all l.arrows (formulas_of (map plain (drop l.formula-index l.formula-items))) ≡ with_all l.fn.arrows (plain_formulas l.formulas)
