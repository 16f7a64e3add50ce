use Rattle.std.proofs.Common.{◌/◌, length, sym, subst}
use Rattle.std.proofs.lemmas.Result.{IfOk-weaker}
use Rattle.cd_model.specs.Formula.{formulas_of}
use Rattle.cd_rules.specs.BasicSets.{one_passes}
use Rattle.cd_normal.specs.Inner.ExactSets.{AreExact}
use Rattle.cd_normal.proofs.Lists.{one_at_most}
use Rattle.cd_normal.proofs.ExactHalves.{one_of_none, one_of_only, in_one_half}
use Rattle.cd_normal.proofs.holding.+in_one.Goals as goal

-- of no sets, and of one
pub returns-in-empty : goal.returns-in-empty
returns-in-empty t c formulas exact =
    one_of_none c.args.sets.now formulas c.in-empty.len_below exact c.none.result c.none.ensures

pub returns-in-len1-up : goal.returns-in-len1-up
returns-in-len1-up t c = IfOk-weaker c.copy.result _ _
    (λ joined same formulas exact. subst (AreExact (λ test. one_passes test (formulas_of formulas))) (sym same)
    (one_of_only c.args.sets.now formulas c.set-item.result c.set-item.is c.in-len1-up.len_at_least
    (one_at_most c.args.sets.now c.if-is_empty.ensures) exact)) c.copy.ensures

-- of one of both halves
pub returns-in_ok-in_one-in-len1-up-2 : goal.returns-in_ok-in_one-in-len1-up-2
returns-in_ok-in_one-in-len1-up-2 t c =
    let sets = c.args.sets.now in
    IfOk-weaker c.union.result _ _
    (λ joined either formulas exact. in_one_half (length sets / 2) sets formulas exact c.in_ok-first-in-len1-up-2.first
    c.in_ok-in_one-in-len1-up-2.field-0 joined c.in_ok-first-in-len1-up-2.ensures c.in_ok-in_one-in-len1-up-2.ensures either)
    c.union.ensures
