-- How questions compare: first the nodes to be in, then those to be outside.
use Rattle.std.specs.Prelude.{◌≡◌, Bool, ◌++◌, Some, refl}
use Rattle.std.specs.declared.cmp.Ordering.{Ordering}
use Rattle.std.specs.Ordering.{on, eq_by_cmp, eq_of_both, then_cmp}
use Rattle.std.specs.Cmp.{IsEquivalence, IsPartialOrder, IsTotalOrder, on_equiv, on_total}
use Rattle.std.specs.Cmp.{partial_order_from_agreeing_total, and_equiv, then_total, both_tied}
use Rattle.std.specs.Cmp.Lexicographic.{pointwise, slice_cmp}
use Rattle.std.specs.Hash as fed
use Rattle.std.specs.Hash.{HashWrites, Alike, on_Alike, and-Alike}
use Rattle.cd_sets.specs.declared.question.Question.{Question}
use Rattle.cd_sets.specs.Comparing.{same_id, id_cmp, id_input, sets_equiv, sets_total, sets_ties}
use Rattle.cd_sets.specs.Comparing.{sets_alike}

abbrev pub same_question : Question → Question → Bool
same_question = eq_of_both (on (λ question. question.pos) (pointwise same_id))
    (on (λ question. question.neg) (pointwise same_id))

abbrev pub question_cmp : Question → Question → Ordering
question_cmp = then_cmp (on (λ question. question.pos) (slice_cmp id_cmp))
    (on (λ question. question.neg) (slice_cmp id_cmp))

-- what a question gives a hasher
abbrev pub question_input : Question → HashWrites
question_input question = fed.slice id_input question.pos ++ fed.slice id_input question.neg

pub questions_equiv : IsEquivalence same_question
questions_equiv = and_equiv (on_equiv (λ question. question.pos) sets_equiv)
    (on_equiv (λ question. question.neg) sets_equiv)

pub questions_total : IsTotalOrder question_cmp
questions_total = then_total (on_total (λ question. question.pos) sets_total)
    (on_total (λ question. question.neg) sets_total)

pub questions_tie : (question other : Question)
    → same_question question other ≡ eq_by_cmp question_cmp question other
questions_tie question other =
    both_tied _ _ _ _ (sets_ties question.pos other.pos) (sets_ties question.neg other.neg)

pub questions_partial : IsPartialOrder same_question
    (λ question other. Some (question_cmp question other))
questions_partial = partial_order_from_agreeing_total question_cmp questions_total
    (λ question other. refl) questions_tie

pub questions_alike : Alike same_question question_input
questions_alike = and-Alike (on_Alike (λ question. question.pos) sets_alike)
    (on_Alike (λ question. question.neg) sets_alike)
