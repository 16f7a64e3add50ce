use Rattle.std.proofs.Common.{◌≡◌, ℕ, List, Some, slice_get, subst}
use Rattle.cd_sets.specs.declared.question.Question.{Question}
use Rattle.cd_verdicts.proofs.Numbering.{stands_at_first, stands_nowhere}
use Rattle.cd_verdicts.proofs.asked.Asked.find.Goals as goal

-- no question of the set is equal
pub returns-in_err-number : goal.returns-in_err-number
returns-in_err-number c =
    let nowhere = stands_nowhere c.self.inside.questions.keys c.args.question.now c.in_err-number.ensures.found in
    let stands_in = λ (asked : List Question) (number : ℕ). slice_get asked number ≡ Some c.args.question.now in
    rw c.from_residual.ensures (subst (λ (asked : List Question). (number : ℕ) → stands_in asked number → ⊥) c.self.view_is nowhere)

-- the first place of an equal question is its number
pub returns : goal.returns
returns c =
    let stands = stands_at_first c.self.inside.questions.keys c.args.question.now c.in_ok-number.number c.in_ok-number.ensures.index in
    subst (λ (asked : List Question). slice_get asked c.in_ok-number.number ≡ Some c.args.question.now) c.self.view_is stands
