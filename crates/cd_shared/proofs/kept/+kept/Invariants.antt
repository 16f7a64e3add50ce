use Rattle.std.proofs.Common.{◌≡◌, map, drop}
use Rattle.cd_model.specs.Formula.{formulas_of}
use Rattle.cd_graph.specs.PlainFormula.{plain, plain_formulas}
use Rattle.cd_graph.proofs.Sizes.{size, size_list}
use Rattle.cd_shared.specs.Shared.{class_in, renamed_formulas}
use Rattle.cd_shared.proofs.kept.+kept.Given as goal

-- each formula is smaller than the one or the list that it stands in
abbrev pub decreases-is_kept : goal.decreases-is_kept
decreases-is_kept l = size (plain l.formula.now)

abbrev pub decreases-are_kept : goal.decreases-are_kept
decreases-are_kept l = size_list (plain_formulas l.formulas.now)

-- all are the same where those are that are left
abbrev pub invariant-are_kept-loop-formula : goal.invariant-are_kept-loop-formula
invariant-are_kept-loop-formula l = renamed_formulas (class_in l.classes)
    (formulas_of (map plain (drop l.formula-index l.formula-items)))
    ≡ formulas_of (map plain (drop l.formula-index l.formula-items))
    → renamed_formulas (class_in l.classes) (plain_formulas l.formulas) ≡ plain_formulas l.formulas
