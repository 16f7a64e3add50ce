use Rattle.std.proofs.Common.{◌≡◌, ◌++◌, map, sym, ap, ap₂, ◌∙◌}
use Rattle.std.proofs.lemmas.Result.{IfOk-weaker}
use Rattle.cd_model.specs.Formula as formula
use Rattle.cd_model.specs.Formula.{formulas_of}
use Rattle.cd_graph.specs.PlainFormula.{plain}
use Rattle.cd_filter.specs.Inner.Forming.{formula_in}
use Rattle.cd_filter.specs.Simpler.{conjuncts}
use Rattle.cd_filter.proofs.Simpler.{first_is_all, second_is_all, is_meet_of}
use Rattle.cd_filter.proofs.combining.meet_of.Goals as goal

pub returns-then-is_all_at : goal.returns-then-is_all_at
returns-then-is_all_at c = IfOk-weaker c.formula_in.result _ _
    (λ met same. first_is_all (formula_in c.args.rows.now c.args.p)
    (formula_in c.args.rows.now c.args.q) (plain met)
    (sym c.is_all_at.ensures ∙ c.if-is_all_at.true) same)
    c.formula_in.ensures

pub returns-then-is_all_at-2 : goal.returns-then-is_all_at-2
returns-then-is_all_at-2 c = IfOk-weaker c.formula_in-then-is_all_at-2.result _ _
    (λ met same. second_is_all (formula_in c.args.rows.now c.args.p)
    (formula_in c.args.rows.now c.args.q) (plain met)
    (sym c.is_all_at-2.ensures ∙ c.if-is_all_at-2.true) same)
    c.formula_in-then-is_all_at-2.ensures

pub returns : goal.returns
returns c =
    let f = formula_in c.args.rows.now c.args.p in
    let g = formula_in c.args.rows.now c.args.q in
    let first : map plain c.add_conjuncts.new.formulas.items ≡ conjuncts f =
    c.in_ok-add_conjuncts.ensures
    ∙ ap₂ (λ items one. map plain items ++ conjuncts one) c.new-formulas.ensures.items
    c.in_ok-formula_in.ensures in
    is_meet_of f g _ _ (plain c.and.result) first
    (c.in_ok-add_conjuncts-2.ensures
    ∙ ap (λ one. map plain c.add_conjuncts.new.formulas.items ++ conjuncts one)
    c.in_ok-formula_in-2.ensures)
    (c.and.ensures ∙ ap (λ all. formula.And (formulas_of all)) c.in_ok-of.ensures)
