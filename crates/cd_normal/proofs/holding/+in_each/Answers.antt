use Rattle.std.proofs.Common.{◌/◌, length, refl, sym, subst}
use Rattle.std.proofs.lemmas.Result.{IfOk-weaker}
use Rattle.cd_model.specs.Formula.{formulas_of}
use Rattle.cd_rules.specs.BasicSets.{all_pass}
use Rattle.cd_normal.specs.Inner.ExactSets.{AreExact}
use Rattle.cd_normal.proofs.Lists.{one_at_most}
use Rattle.cd_normal.proofs.ExactHalves.{each_of_none, each_of_only, in_both_halves, nothing_in_first}
use Rattle.cd_normal.proofs.holding.+in_each.Goals as goal

-- of no sets, and of one
pub returns-in-empty : goal.returns-in-empty
returns-in-empty t c = IfOk-weaker c.all.result _ _
    (λ joined here formulas exact. each_of_none c.args.sets.now formulas c.in-empty.len_below exact joined here) c.all.ensures

pub returns-in-len1-up : goal.returns-in-len1-up
returns-in-len1-up t c = IfOk-weaker c.copy.result _ _
    (λ joined same formulas exact. subst (AreExact (λ test. all_pass test (formulas_of formulas))) (sym same)
    (each_of_only c.args.sets.now formulas c.set-item.result c.set-item.is c.in-len1-up.len_at_least
    (one_at_most c.args.sets.now c.if-is_empty.ensures) exact)) c.copy.ensures

-- of both halves
pub returns-in_ok-in_each-in-len1-up-2 : goal.returns-in_ok-in_each-in-len1-up-2
returns-in_ok-in_each-in-len1-up-2 t c =
    let sets = c.args.sets.now in
    IfOk-weaker c.intersect.result _ _
    (λ joined both formulas exact. in_both_halves (length sets / 2) sets formulas exact c.in_ok-first-in-len1-up-2.first
    c.in_ok-in_each-in-len1-up-2.field-0 joined c.in_ok-first-in-len1-up-2.ensures c.in_ok-in_each-in-len1-up-2.ensures both)
    c.intersect.ensures

pub returns-then-is_empty-2 : goal.returns-then-is_empty-2
returns-then-is_empty-2 t c formulas exact =
    let sets = c.args.sets.now in
    nothing_in_first (length sets / 2) sets formulas exact c.in_ok-first-in-len1-up-2.first (c.if-is_empty-2.ensures.0 refl)
    c.in_ok-first-in-len1-up-2.ensures
