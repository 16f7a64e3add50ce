use Rattle.std.proofs.Common.{map}
use Rattle.cd_model.specs.Formula.{formulas_of}
use Rattle.cd_graph.specs.PlainFormula.{plain}
use Rattle.cd_graph.proofs.Sizes.{size, size_list}
use Rattle.cd_products.proofs.basic.+is_basic.Given as goal

-- each formula is smaller than the one or the list that it stands in
abbrev pub decreases-is_basic : goal.decreases-is_basic
decreases-is_basic l = size (plain l.formula.now)

abbrev pub decreases-one_is_basic : goal.decreases-one_is_basic
decreases-one_is_basic l = size_list (formulas_of (map plain l.formulas.now))

abbrev pub decreases-all_are_basic : goal.decreases-all_are_basic
decreases-all_are_basic l = size_list (formulas_of (map plain l.formulas.now))
