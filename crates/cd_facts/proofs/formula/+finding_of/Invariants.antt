use Rattle.std.proofs.Common.{◌≡◌, map, drop}
use Rattle.cd_model.specs.Formula.{formulas_of}
use Rattle.cd_graph.specs.PlainFormula.{plain, plain_formulas}
use Rattle.cd_facts.specs.Inner.Known.{known}
use Rattle.cd_facts.specs.Inner.Finding.{finding_of_all, finding_of_any}
use Rattle.cd_graph.proofs.Sizes.{size, size_list}
use Rattle.cd_facts.proofs.formula.+finding_of.Given as goal

-- each formula is smaller than the one or the list that it stands in
abbrev pub decreases-finding_of : goal.decreases-finding_of
decreases-finding_of l = size (plain l.formula.now)

abbrev pub decreases-of_all : goal.decreases-of_all
decreases-of_all l = size_list (plain_formulas l.formulas.now)

abbrev pub decreases-of_any : goal.decreases-of_any
decreases-of_any l = size_list (plain_formulas l.formulas.now)

-- it depends on the formulas that are left
abbrev pub invariant-of_all-loop-formula : goal.invariant-of_all-loop-formula
invariant-of_all-loop-formula l =
    finding_of_all (known l.facts) l.shape (formulas_of (map plain (drop l.formula-index l.formula-items)))
    ≡ finding_of_all (known l.facts) l.shape (plain_formulas l.formulas)

abbrev pub invariant-of_any-loop-formula : goal.invariant-of_any-loop-formula
invariant-of_any-loop-formula l =
    finding_of_any (known l.facts) l.shape (formulas_of (map plain (drop l.formula-index l.formula-items)))
    ≡ finding_of_any (known l.facts) l.shape (plain_formulas l.formulas)
