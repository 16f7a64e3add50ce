-- What a look-up of a question finds among verdicts, of which each question has one.
use Rattle.std.proofs.Common.{◌≡◌, Bool, true, false, cond, List, [], ◌∷◌, Option, Some, None, map, MatchOption, Decides}
use Rattle.std.proofs.Common.{inl, inr, refl, sym, ap, subst, ◌∙◌, true≢false}
use Rattle.std.specs.Map.{lookup}
use Rattle.cd_sets.specs.declared.question.Question.{Question}
use Rattle.cd_sets.specs.Asking.{same_question}
use Rattle.cd_sets.proofs.Same.{questions_decide}
use Rattle.cd_model.specs.AllOf.{AnyOf}
use Rattle.cd_rules.specs.Machine.{NotIn}
use Rattle.cd_rules.specs.Right.{Differ}
use Rattle.cd_verdicts.specs.declared.verdict.Verdict.{Verdict}
use Rattle.cd_verdicts.specs.Verdicts.{IsKept}

-- the questions that have verdicts
abbrev pub asked : List (Question × Verdict) → List Question
asked all = map (λ one. one.0) all

pub kept_is_asked : (all : List (Question × Verdict)) (question : Question) (verdict : Verdict) → IsKept all question verdict
    → AnyOf (λ other. other ≡ question) (asked all)
kept_is_asked [] question verdict is = elim is [ ]
kept_is_asked (one ∷ all) question verdict (inl same) = inl (λ i. (same i).0)
kept_is_asked (one ∷ all) question verdict (inr later) = inr (kept_is_asked all question verdict later)

-- what is found is kept; and where nothing is found, the question has no verdict
pub look_up_finds : (all : List (Question × Verdict)) (question : Question)
    → MatchOption (lookup (same_question question) all) (NotIn (asked all) question) (λ verdict. IsKept all question verdict)
look_up_finds [] question = λ none. none
look_up_finds (one ∷ all) question =
    by_test (same_question question one.0) (questions_decide question one.0) (lookup (same_question question) all) (look_up_finds all question)
  where
    by_test : (same : Bool) → Decides same (question ≡ one.0) → (later : Option Verdict)
        → MatchOption later (NotIn (asked all) question) (λ verdict. IsKept all question verdict)
        → MatchOption (cond same (Some one.1) later) (NotIn (asked (one ∷ all)) question) (λ verdict. IsKept (one ∷ all) question verdict)
    by_test true is later found = inl (λ i. (sym (is.0 refl) i, one.1))
    by_test false is (Some verdict) found = inr found
    by_test false is None found = neither
      where
        neither : NotIn (asked (one ∷ all)) question
        neither (inl same) = true≢false (sym (is.1 (sym same)))
        neither (inr there) = found there

-- where a question has no verdict, none is found
pub look_up_misses : (all : List (Question × Verdict)) (question : Question) → NotIn (asked all) question
    → lookup (same_question question) all ≡ None
look_up_misses all question none = by_found (lookup (same_question question) all) (look_up_finds all question)
  where
    by_found : (found : Option Verdict) → MatchOption found (NotIn (asked all) question) (λ verdict. IsKept all question verdict)
        → found ≡ None
    by_found None is = refl
    by_found (Some verdict) kept = absurd (none (kept_is_asked all question verdict kept))

-- where the questions differ, each has one verdict
pub one_verdict : (all : List (Question × Verdict)) → Differ (asked all) → (question : Question) (one other : Verdict)
    → IsKept all question one → IsKept all question other → one ≡ other
one_verdict [] differ question one other first second = elim first [ ]
one_verdict (kept ∷ all) differ question one other (inl is) (inl is_too) = ap (λ (both : Question × Verdict). both.1) (sym is ∙ is_too)
one_verdict (kept ∷ all) differ question one other (inl is) (inr later) =
    absurd (differ.0 (subst (λ question. AnyOf (λ (other : Question). other ≡ question) (asked all)) (λ i. (sym is i).0)
    (kept_is_asked all question other later)))
one_verdict (kept ∷ all) differ question one other (inr later) (inl is) =
    absurd (differ.0 (subst (λ question. AnyOf (λ (other : Question). other ≡ question) (asked all)) (λ i. (sym is i).0)
    (kept_is_asked all question one later)))
one_verdict (kept ∷ all) differ question one other (inr first) (inr second) = one_verdict all differ.1 question one other first second

-- a question that is not among those that have verdicts has no verdict
pub found_or_none : (all : List (Question × Verdict)) (question : Question) (found : Option Verdict)
    → MatchOption found (NotIn (asked all) question) (λ verdict. IsKept all question verdict)
    → MatchOption found ((verdict : Verdict) → IsKept all question verdict → ⊥) (λ verdict. IsKept all question verdict)
found_or_none all question (Some verdict) kept = kept
found_or_none all question None none = λ verdict kept. none (kept_is_asked all question verdict kept)
