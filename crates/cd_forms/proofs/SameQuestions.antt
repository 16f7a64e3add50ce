-- A question that is equal to a stored one is that.
use Rattle.std.proofs.Common.{◌≡◌, ℕ, true, List, Some, sym, ap, ◌∙◌}
use Rattle.std.specs.List.{slice_get}
use Rattle.cd_sets.specs.Asking.{same_question}
use Rattle.cd_sets.specs.declared.question.Question.{Question}
use Rattle.cd_sets.proofs.Same.{questions_decide}

pub stored_is : (questions : List Question) (number : ℕ) (question stored : Question)
    → slice_get questions number ≡ Some stored → same_question question stored ≡ true
    → slice_get questions number ≡ Some question
stored_is questions number question stored there same =
    there ∙ ap Some (sym ((questions_decide question stored).0 same))
