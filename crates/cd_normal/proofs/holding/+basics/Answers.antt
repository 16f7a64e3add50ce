use Rattle.std.proofs.Common.{rules, not, map, drop, refl, ap, sym, ◌∙◌}
use Rattle.std.proofs.lemmas.Result.{IfOk-weaker}
use Rattle.cd_graph.specs.PlainFormula.{plain}
use Rattle.cd_rules.specs.BasicSets.{passes}
use Rattle.cd_graph.proofs.Reading.{plain_not}
use Rattle.cd_graph.proofs.Sizes.{items_fall}
use Rattle.cd_normal.proofs.ExactSets.{exact_so}
use Rattle.cd_normal.proofs.Collected.{passes_each, passes_one, next_formula, none_left, one_put, all_put, left_out, nothing_more}
use Rattle.cd_normal.proofs.holding.+basics.Goals as goal
use Rattle.cd_normal.proofs.holding.+basics.Goals.{of_one-then-not-has_parts+in_ok-of_formula+in_ok-push, of_one-else-not-has_parts}

pub of_formula-returns-in_ok-of_formula-in-Not : goal.of_formula-returns-in_ok-of_formula-in-Not
of_formula-returns-in_ok-of_formula-in-Not t c =
    let inner = plain c.deref.result.now in
    IfOk-weaker c.others.result _ _
    (λ sets of. exact_so (λ test. not (passes test inner)) (λ test. passes test (plain c.args.formula.now))
    (λ test. ap (λ is. not (passes test (plain is))) c.deref.ensures
    ∙ sym (ap (passes test) (ap plain c.in-Not.is ∙ plain_not c.in-Not.inner))) sets
    (of (λ test. passes test inner) c.in_ok-of_formula-in-Not.ensures)) c.others.ensures

-- each formula is smaller than the list
pub of_each-of_formula-requires : goal.of_each-of_formula-requires
of_each-of_formula-requires t c =
    let fall = items_fall c.args.formulas.now c.loop-formula.formula-index c.formula-item.result c.formula-item.is c.loop-formula-test.true in
    search (rules, fall, c.decreases)

pub of_one-of_formula-requires : goal.of_one-of_formula-requires
of_one-of_formula-requires t c =
    let fall = items_fall c.args.formulas.now c.loop-formula.formula-index c.formula-item.result c.formula-item.is c.loop-formula-test.true in
    search (rules, fall, c.decreases)

-- where nothing is in one of the formulas, nothing is in each of all
pub of_each-returns-then-is_empty : goal.of_each-returns-then-is_empty
of_each-returns-then-is_empty t c =
    let formulas = c.args.formulas.now in
    let index = c.loop-formula.formula-index in
    let formula = c.formula-item.result in
    nothing_more (map plain formulas) _ _ c.loop-formula.sets.items (plain formula) c.in_ok-set.set c.loop-formula.invariant
    (next_formula formulas index formula c.formula-item.is c.loop-formula-test.true) c.in_ok-set.ensures (c.if-is_empty.ensures.0 refl)

-- the set of one formula more
pub of_each-loop-formula-preserved : goal.of_each-loop-formula-preserved
of_each-loop-formula-preserved t c =
    let formulas = c.args.formulas.now in
    let index = c.loop-formula.formula-index in
    let formula = c.formula-item.result in
    one_put passes_each (map plain formulas) _ _ c.loop-formula.sets.items c.push.new.self.items (plain formula) c.in_ok-set.set
    c.loop-formula.invariant (next_formula formulas index formula c.formula-item.is c.loop-formula-test.true) c.in_ok-set.ensures
    c.in_ok-push.ensures.items

-- which is left out where the formula is of things that have parts
pub of_one-loop-formula-preserved : goal.of_one-loop-formula-preserved
of_one-loop-formula-preserved t c =
    let formulas = c.args.formulas.now in
    let index = c.loop-formula.formula-index in
    let formula = c.formula-item.result in
    let next = next_formula formulas index formula c.formula-item.is c.loop-formula-test.true in
    elim c.if-not-has_parts.branch [
      | of_one-then-not-has_parts+in_ok-of_formula+in_ok-push w ↦
          one_put passes_one (map plain formulas) _ _ c.loop-formula.sets.items c.if-not-has_parts.sets.items (plain formula)
          w.in_ok-of_formula.field-0 c.loop-formula.invariant next w.in_ok-of_formula.ensures
          (ap (λ sets. sets.items) w.sets-is ∙ w.in_ok-push.ensures.items)
      | of_one-else-not-has_parts w ↦
          left_out (map plain formulas) _ _ c.loop-formula.sets.items c.if-not-has_parts.sets.items (plain formula)
          c.loop-formula.invariant next (sym w.if-not-has_parts.ensures) (ap (λ sets. sets.items) w.sets-is)
    ]

-- in the end those of all
pub of_each-returns : goal.of_each-returns
of_each-returns t c =
    let formulas = c.args.formulas.now in
    let index = c.loop-formula.formula-index in
    IfOk-weaker c.in_each.result _ _ (λ joined exact. all_put passes_each (map plain formulas) (map plain (drop index formulas))
    c.loop-formula.sets.items c.as_slice.result.now c.loop-formula.invariant (none_left formulas index c.loop-formula-test.false)
    c.as_slice.ensures.value joined exact) c.in_each.ensures

pub of_one-returns : goal.of_one-returns
of_one-returns t c =
    let formulas = c.args.formulas.now in
    let index = c.loop-formula.formula-index in
    IfOk-weaker c.in_one.result _ _ (λ joined exact. all_put passes_one (map plain formulas) (map plain (drop index formulas))
    c.loop-formula.sets.items c.as_slice.result.now c.loop-formula.invariant (none_left formulas index c.loop-formula-test.false)
    c.as_slice.ensures.value joined exact) c.in_one.ensures
