use Rattle.cd_graph.specs.PlainFormula.{plain, plain_formulas}
use Rattle.cd_graph.proofs.Sizes.{size, size_list}
use Rattle.cd_shared.proofs.search.Search.+sum.Given as goal

-- each formula is smaller than the one or the list that it stands in
abbrev pub decreases-formula : goal.decreases-formula
decreases-formula l = size (plain l.formula.now)

abbrev pub decreases-formulas : goal.decreases-formulas
decreases-formulas l = size_list (plain_formulas l.formulas.now)
