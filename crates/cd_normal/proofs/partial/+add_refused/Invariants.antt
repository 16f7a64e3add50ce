use Rattle.std.proofs.Common.{◌≡◌, ◌++◌, map, drop}
use Rattle.cd_model.specs.Formula.{formulas_of}
use Rattle.cd_graph.specs.PlainFormula.{plain, plain_formulas}
use Rattle.cd_graph.proofs.Sizes.{size, size_list}
use Rattle.cd_normal.specs.Inner.NextConjuncts.{refused_of}
use Rattle.cd_normal.specs.Inner.PlainConjunct.{plain_conjunct}
use Rattle.cd_normal.specs.Inner.PlainKind.{plain_kind}
use Rattle.cd_normal.proofs.partial.+add_refused.Given as goal

-- each formula is smaller than the one or the list that it stands in
abbrev pub decreases-add_refused_in : goal.decreases-add_refused_in
decreases-add_refused_in l = size (plain l.formula.now)

abbrev pub decreases-add_refused : goal.decreases-add_refused
decreases-add_refused l = size_list (plain_formulas l.formulas.now)

-- with those of the formulas that are left it is the whole
abbrev pub invariant-add_refused-loop-formula : goal.invariant-add_refused-loop-formula
invariant-add_refused-loop-formula l =
    plain_conjunct l.conjunct.items ++ refused_of (plain_kind l.kind) (formulas_of (map plain (drop l.formula-index l.formulas)))
    ≡ plain_conjunct l.fn.conjunct.items ++ refused_of (plain_kind l.kind) (formulas_of (map plain l.formulas))
