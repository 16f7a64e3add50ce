use Rattle.std.proofs.Common.{◌≡◌, ◌≤◌, map, drop, length}
use Rattle.cd_model.specs.Formula.{formulas_of}
use Rattle.cd_graph.specs.PlainFormula.{plain, plain_formulas}
use Rattle.cd_normal.specs.Inner.PlainConjunct.{plain_conjuncts}
use Rattle.cd_rules.specs.KindDnf.{kind_of_each, kind_of_one}
use Rattle.cd_normal.specs.Inner.PlainKind.{plain_kind}
use Rattle.cd_graph.proofs.Sizes.{size, size_list}
use Rattle.cd_normal.proofs.conjunct.+dnf.Given as goal

-- each formula is smaller than the one or the list that it stands in
abbrev pub decreases-dnf : goal.decreases-dnf
decreases-dnf l = size (plain l.formula.now)

abbrev pub decreases-of_each : goal.decreases-of_each
decreases-of_each l = size_list (plain_formulas l.formulas.now)

abbrev pub decreases-of_one : goal.decreases-of_one
decreases-of_one l = size_list (plain_formulas l.formulas.now)

-- the conjuncts are those of the formulas from the index on
abbrev pub invariant-of_each-loop-index : goal.invariant-of_each-loop-index
invariant-of_each-loop-index l =
    (l.index ≤ length l.formulas) ×
    (plain_conjuncts l.all.items ≡ kind_of_each (plain_kind l.kind) (formulas_of (map plain (drop l.index l.formulas))) l.wanted)

abbrev pub invariant-of_one-loop-index : goal.invariant-of_one-loop-index
invariant-of_one-loop-index l =
    (l.index ≤ length l.formulas) ×
    (plain_conjuncts l.all.items ≡ kind_of_one (plain_kind l.kind) (formulas_of (map plain (drop l.index l.formulas))) l.wanted)

abbrev pub decreases-of_each-loop-index : goal.decreases-of_each-loop-index
decreases-of_each-loop-index l = l.index

abbrev pub decreases-of_one-loop-index : goal.decreases-of_one-loop-index
decreases-of_one-loop-index l = l.index
