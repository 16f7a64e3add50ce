use Rattle.std.proofs.Common.{◌≡◌, ℕ, List, Some, None, map, length, sym, ap, subst, ◌∙◌}
use Rattle.std.proofs.Common.{Vec, Global}
use Rattle.std.proofs.lemmas.List.{length-map, map_push, take_all}
use Rattle.std.specs.List.{slice_get, AllZip}
use Rattle.std.specs.Vec.{vec_len}
use Rattle.cd_model.proofs.ByNumber.{past_end}
use Rattle.cd_sets.specs.declared.question.Question.{Question}
use Rattle.cd_graph.specs.Nodes.{nodes}
use Rattle.cd_graph.specs.PlainFormula.{plain}
use Rattle.cd_graph.specs.declared.formula.Formula.{Formula as CodeFormula}
use Rattle.cd_products.specs.Keeping.{IsFormulaOfQuestion}
use Rattle.cd_forms.proofs.ByNumber.{zip_more}
use Rattle.cd_forms.proofs.of_sequences.question_formulas.question_formulas.Goals as goal

-- how many formulas there are
counted : (formulas : Vec CodeFormula Global) (count : ℕ) → count ≡ vec_len formulas
    → count ≡ length (map plain formulas.items)
counted formulas count same = same ∙ formulas.ok.0 ∙ sym (length-map formulas.items plain)

-- the formula of one question more
pub loop-question-preserved : goal.loop-question-preserved
loop-question-preserved c =
    let questions = c.args.questions.now in
    let old = c.loop-question.formulas.items in
    zip_more (IsFormulaOfQuestion (nodes c.args.graph.now)) questions (map plain old)
    (map plain c.push.new.self.items) c.in-Some.question.now
    (plain c.in_ok-question_formula.field-0) c.loop-question.invariant
    (subst (λ (k : ℕ). slice_get questions k ≡ Some c.in-Some.question.now)
    (counted c.loop-question.formulas c.len.result c.len.ensures) (sym c.in-Some.ensures))
    c.in_ok-question_formula.ensures
    (ap (map plain) c.in_ok-push.ensures.items
    ∙ map_push plain old c.in_ok-question_formula.field-0)

-- no question is left
pub returns : goal.returns
returns c =
    let questions = c.args.questions.now in
    let made = map plain c.loop-question.formulas.items in
    let past = past_end questions (length made)
    (subst (λ (k : ℕ). slice_get questions k ≡ None)
    (counted c.loop-question.formulas c.len.result c.len.ensures) (sym c.in_default.ensures)) in
    subst (λ (some : List Question).
    AllZip (IsFormulaOfQuestion (nodes c.args.graph.now)) some made)
    (take_all (length made) questions past) c.loop-question.invariant
