use Rattle.std.proofs.Common.{rules, ◌-◌, ◌++◌, ◌∙◌, ap, map, arith}
use Rattle.cd_model.specs.Formula.{formulas_of}
use Rattle.cd_graph.specs.PlainFormula.{plain}
use Rattle.cd_graph.proofs.Sizes.{items_fall}
use Rattle.cd_normal.specs.Inner.NextConjuncts.{with_conjuncts, wanted_of}
use Rattle.cd_normal.specs.Inner.PlainPartial.{plain_partial, plain_partials}
use Rattle.cd_normal.proofs.Lists.{all_left}
use Rattle.cd_normal.proofs.going_on.+choose_copies.Goals as goal

-- each item of a list is smaller than the list
pub choose_copies-choose_copies_in-requires : goal.choose_copies-choose_copies_in-requires
choose_copies-choose_copies_in-requires t c =
    let fall = rw c.items-formulas.ensures at (items_fall c.items-formulas.result.now (c.loop-index.index - 1)
    c.index-formulas-index.result c.index-formulas-index.is
    (omega (arith, c.loop-index-test.true, c.loop-index.invariant.0))) in
    search (rules, fall, c.decreases)

-- the conjuncts for all formulas from the first on are all
pub choose_copies-returns : goal.choose_copies-returns
choose_copies-returns t c =
    let top = plain_partial c.args.top.now in
    c.loop-index.invariant.1
    ∙ ap (λ left. with_conjuncts (wanted_of top.kind (formulas_of left)) top ++ plain_partials c.args.conjuncts.now.items)
    (ap (map plain) (all_left c.items-formulas.result.now c.loop-index.index c.loop-index-test.false) ∙ c.items-formulas.ensures)
