use Rattle.std.proofs.Common.{◌≡◌, map, drop}
use Rattle.cd_model.specs.Formula.{formulas_of}
use Rattle.cd_graph.specs.PlainFormula.{plain, plain_formulas}
use Rattle.cd_graph.proofs.Sizes.{size, size_list}
use Rattle.cd_asking.specs.Inner.Shapes.{in_each, in_one}
use Rattle.cd_asking.specs.Inner.Asked.{plain_shape}
use Rattle.cd_asking.proofs.shape.+in_formula.Given as goal

-- each formula is smaller than the one or the list that it stands in
abbrev pub decreases-in_formula : goal.decreases-in_formula
decreases-in_formula l = size (plain l.formula.now)

abbrev pub decreases-in_all : goal.decreases-in_all
decreases-in_all l = size_list (plain_formulas l.formulas.now)

abbrev pub decreases-in_any : goal.decreases-in_any
decreases-in_any l = size_list (plain_formulas l.formulas.now)

-- it depends on the formulas that are left
abbrev pub invariant-in_all-loop-formula : goal.invariant-in_all-loop-formula
invariant-in_all-loop-formula l =
    in_each (plain_shape l.shape) (formulas_of (map plain (drop l.formula-index l.formula-items)))
    ≡ in_each (plain_shape l.shape) (plain_formulas l.formulas)

abbrev pub invariant-in_any-loop-formula : goal.invariant-in_any-loop-formula
invariant-in_any-loop-formula l =
    in_one (plain_shape l.shape) (formulas_of (map plain (drop l.formula-index l.formula-items)))
    ≡ in_one (plain_shape l.shape) (plain_formulas l.formulas)
