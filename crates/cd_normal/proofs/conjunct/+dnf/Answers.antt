use Rattle.std.proofs.Common.{rules, ◌-◌, ◌∙◌, map, ap, arith}
use Rattle.cd_model.specs.Formula.{formulas_of}
use Rattle.cd_graph.specs.PlainFormula.{plain}
use Rattle.cd_rules.specs.KindDnf.{kind_of_each}
use Rattle.cd_normal.specs.Inner.PlainKind.{plain_kind}
use Rattle.cd_normal.proofs.Lists.{all_left}
use Rattle.cd_graph.proofs.Sizes.{items_fall}
use Rattle.cd_normal.proofs.conjunct.+dnf.Goals as goal

-- each item of a list is smaller than the list
pub of_each-dnf-requires : goal.of_each-dnf-requires
of_each-dnf-requires t c =
    let fall = rw c.items-formulas.ensures at (items_fall c.items-formulas.result.now (c.loop-index.index - 1)
    c.index-formulas-index.result c.index-formulas-index.is
    (omega (arith, c.loop-index-test.true, c.loop-index.invariant.0))) in
    search (rules, fall, c.decreases)

pub of_one-dnf-requires : goal.of_one-dnf-requires
of_one-dnf-requires t c =
    let fall = rw c.items-formulas.ensures at (items_fall c.items-formulas.result.now (c.loop-index.index - 1)
    c.index-formulas-index.result c.index-formulas-index.is
    (omega (arith, c.loop-index-test.true, c.loop-index.invariant.0))) in
    search (rules, fall, c.decreases)

-- the conjuncts of all formulas from the first on are all
pub of_each-returns : goal.of_each-returns
of_each-returns t c = c.loop-index.invariant.1 ∙ ap (λ left. kind_of_each (plain_kind c.args.kind) (formulas_of left) c.args.wanted)
    (ap (map plain) (all_left c.items-formulas.result.now c.loop-index.index c.loop-index-test.false) ∙
    c.items-formulas.ensures)
