use Rattle.std.proofs.Common.{◌≡◌, ◌≤◌, ◌++◌, map, drop, length}
use Rattle.cd_model.specs.Formula.{formulas_of}
use Rattle.cd_graph.specs.PlainFormula.{plain, plain_formulas}
use Rattle.cd_graph.proofs.Sizes.{size, size_list}
use Rattle.cd_normal.specs.Inner.NextConjuncts.{with_conjuncts, wanted_of}
use Rattle.cd_normal.specs.Inner.PlainPartial.{plain_partial, plain_partials}
use Rattle.cd_normal.proofs.going_on.+choose_copies.Given as goal

-- each formula is smaller than the one or the list that it stands in
abbrev pub decreases-choose_copies_in : goal.decreases-choose_copies_in
decreases-choose_copies_in l = size (plain l.formula.now)

abbrev pub decreases-choose_copies : goal.decreases-choose_copies
decreases-choose_copies l = size_list (plain_formulas l.formulas.now)

-- the conjuncts for the formulas from the index on stand on the others
abbrev pub invariant-choose_copies-loop-index : goal.invariant-choose_copies-loop-index
invariant-choose_copies-loop-index l =
    (l.index ≤ length l.formulas) × (plain_partials l.conjuncts.items
    ≡ with_conjuncts (wanted_of (plain_partial l.top).kind (formulas_of (map plain (drop l.index l.formulas)))) (plain_partial l.top)
    ++ plain_partials l.fn.conjuncts.items)

abbrev pub decreases-choose_copies-loop-index : goal.decreases-choose_copies-loop-index
decreases-choose_copies-loop-index l = l.index
