-- Where a question stands among others, each of which stands there once.
use Rattle.std.proofs.Common.{◌≡◌, ℕ, ◌<◌, true, false, List, Some, get_or, slice_get, position, refl, sym, ap, ◌∙◌, true≢false, arith}
use Rattle.std.specs.List.{list_any, IsDistinct}
use Rattle.std.proofs.lemmas.List.Quantifiers.{position-Some}
use Rattle.std.proofs.lemmas.Map.Keys.{any_passes_from_place, apart_from_distinct}
use Rattle.std.proofs.lemmas.Option.{slice_get-get_or, slice_get_within, get_or_from_slice_get}
use Rattle.cd_sets.specs.declared.question.Question.{Question}
use Rattle.cd_sets.specs.Asking.{same_question}
use Rattle.cd_sets.proofs.Same.{questions_decide}

-- a question is equal to itself
equal_to_itself : (question : Question) → same_question question question ≡ true
equal_to_itself question = (questions_decide question question).1 refl

-- where an equal question stands, the question itself stands
pub stands_where_equal : (asked : List Question) (question stored : Question) (number : ℕ) → slice_get asked number ≡ Some stored
    → same_question question stored ≡ true → slice_get asked number ≡ Some question
stands_where_equal asked question stored number stands equal = stands ∙ ap Some (sym ((questions_decide question stored).0 equal))

-- the first place of an equal question is one of the question
pub stands_at_first : (asked : List Question) (question : Question) (number : ℕ) → Some number ≡ position (same_question question) asked
    → slice_get asked number ≡ Some question
stands_at_first asked question number first =
    let found = position-Some (same_question question) asked number question (sym first) in
    stands_where_equal asked question (get_or asked number question) number (slice_get-get_or asked number question found.0) found.1

-- a question that is equal to none stands at no place
pub stands_nowhere : (asked : List Question) (question : Question) → false ≡ list_any (same_question question) asked
    → (number : ℕ) → slice_get asked number ≡ Some question → ⊥
stands_nowhere asked question none number stands =
    true≢false (sym (any_passes_from_place (same_question question) asked number question stands (equal_to_itself question)) ∙ sym none)

-- of questions no two of which are equal, none stands at a place and at a later one
stands_not_later : (asked : List Question) → IsDistinct same_question asked → (first second : ℕ) (question : Question)
    → slice_get asked first ≡ Some question → slice_get asked second ≡ Some question → first < second → ⊥
stands_not_later asked distinct first second question at_first at_second later =
    let within = slice_get_within asked second question at_second in
    let apart = apart_from_distinct same_question asked first second question distinct later within in
    let one = get_or_from_slice_get asked first question question at_first in
    let other = get_or_from_slice_get asked second question question at_second in
    true≢false (sym (equal_to_itself question) ∙ (λ i. same_question (sym one i) (sym other i)) ∙ apart)

-- of questions no two of which are equal, each stands at one place
pub stands_once : (asked : List Question) → IsDistinct same_question asked → (first second : ℕ) (question : Question)
    → slice_get asked first ≡ Some question → slice_get asked second ≡ Some question → first ≡ second
stands_once asked distinct first second question at_first at_second =
    let not_later = stands_not_later asked distinct first second question at_first at_second in
    let not_earlier = stands_not_later asked distinct second first question at_second at_first in
    grind arith
