use Rattle.std.proofs.Common.{◌≡◌, ◌++◌, map, drop}
use Rattle.cd_graph.specs.PlainFormula.{plain, plain_formulas}
use Rattle.cd_graph.proofs.Sizes.{size, size_list}
use Rattle.cd_shared.specs.Shared.{class_in, renamed_formula}
use Rattle.cd_shared.proofs.renamed.+renamed.Given as goal

-- each formula is smaller than the one or the list that it stands in
abbrev pub decreases-renamed_formula : goal.decreases-renamed_formula
decreases-renamed_formula l = size (plain l.formula.now)

abbrev pub decreases-renamed_list : goal.decreases-renamed_list
decreases-renamed_list l = size_list (plain_formulas l.formulas.now)

-- those that were gone over, and those that are left
abbrev pub invariant-renamed_list-loop-formula : goal.invariant-renamed_list-loop-formula
invariant-renamed_list-loop-formula l = map plain l.images.items
    ++ map (renamed_formula (class_in l.classes)) (map plain (drop l.formula-index l.formula-items))
    ≡ map (renamed_formula (class_in l.classes)) (map plain l.formula-items)
