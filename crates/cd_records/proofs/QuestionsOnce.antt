-- What is in one of some questions is in one of those of which each is there once.
use Rattle.std.proofs.Common.{◌≡◌, Bool, true, false, ◌||◌, List, [], ◌∷◌, ◌++◌, ◌⊎◌, inl, inr}
use Rattle.std.proofs.Common.{refl, sym, subst, if◌then◌else◌}
use Rattle.std.proofs.lemmas.Bool.{true≢false}
use Rattle.std.specs.List.{list_any}
use Rattle.cd_sets.proofs.Same.{questions_decide}
use Rattle.cd_sets.specs.Asking.{same_question}
use Rattle.cd_sets.specs.declared.question.Question.{Question}
use Rattle.cd_model.specs.AllOf.{AllOf, AnyOf}
use Rattle.cd_model.proofs.Ones.{one_on_left, one_on_right, one_on_a_side, each_of_lists}
use Rattle.cd_records.specs.Inner.Saying.{with_question, with_questions}

module _ (Fact : Question → Type 0) where
  -- a question that is found among others
  found : (question : Question) (known : List Question)
      → list_any (same_question question) known ≡ true → Fact question → AnyOf Fact known
  found question [] there is = absurd (true≢false (sym there))
  found question (other ∷ known) there is =
      by_test (same_question question other) (questions_decide question other).0 there
      (λ later. found question known later is)
    where
      by_test : (same : Bool) → (same ≡ true → question ≡ other)
          → same || list_any (same_question question) known ≡ true
          → (list_any (same_question question) known ≡ true → AnyOf Fact known)
          → AnyOf Fact (other ∷ known)
      by_test true same there further = inl (subst Fact (same refl) is)
      by_test false same there further = inr (further there)

  one_more : (question : Question) (known : List Question)
      → Fact question ⊎ AnyOf Fact known → AnyOf Fact (with_question question known)
  one_more question known one =
      by_test (list_any (same_question question) known) (found question known) one
    where
      by_test : (b : Bool) → (b ≡ true → Fact question → AnyOf Fact known)
          → Fact question ⊎ AnyOf Fact known
          → AnyOf Fact (if b then known else known ++ (question ∷ []))
      by_test true there (inl is) = there refl is
      by_test true there (inr later) = later
      by_test false there (inl is) = one_on_right Fact known (question ∷ []) (inl is)
      by_test false there (inr later) = one_on_left Fact known (question ∷ []) later

  one_less : (question : Question) (known : List Question)
      → AnyOf Fact (with_question question known) → Fact question ⊎ AnyOf Fact known
  one_less question known one = by_test (list_any (same_question question) known) one
    where
      by_side : AnyOf Fact known ⊎ AnyOf Fact (question ∷ []) → Fact question ⊎ AnyOf Fact known
      by_side (inl one) = inr one
      by_side (inr (inl is)) = inl is
      by_side (inr (inr none)) = absurd none

      by_test : (b : Bool) → AnyOf Fact (if b then known else known ++ (question ∷ []))
          → Fact question ⊎ AnyOf Fact known
      by_test true one = inr one
      by_test false one = by_side (one_on_a_side Fact known (question ∷ []) one)

  pub one_of_both : (new known : List Question) → AnyOf Fact new ⊎ AnyOf Fact known
      → AnyOf Fact (with_questions new known)
  one_of_both [] known (inl none) = absurd none
  one_of_both [] known (inr one) = one
  one_of_both (question ∷ new) known (inl (inl is)) =
      one_of_both new (with_question question known) (inr (one_more question known (inl is)))
  one_of_both (question ∷ new) known (inl (inr later)) =
      one_of_both new (with_question question known) (inl later)
  one_of_both (question ∷ new) known (inr one) =
      one_of_both new (with_question question known) (inr (one_more question known (inr one)))

  pub one_of_either : (new known : List Question) → AnyOf Fact (with_questions new known)
      → AnyOf Fact new ⊎ AnyOf Fact known
  one_of_either [] known one = inr one
  one_of_either (question ∷ new) known one =
      by_side (one_of_either new (with_question question known) one)
    where
      by_last : Fact question ⊎ AnyOf Fact known → AnyOf Fact (question ∷ new) ⊎ AnyOf Fact known
      by_last (inl is) = inl (inl is)
      by_last (inr one) = inr one

      by_side : AnyOf Fact new ⊎ AnyOf Fact (with_question question known)
          → AnyOf Fact (question ∷ new) ⊎ AnyOf Fact known
      by_side (inl later) = inl (inr later)
      by_side (inr one) = by_last (one_less question known one)

  -- what holds of each question holds of each of these
  each_more : (question : Question) (known : List Question) → Fact question → AllOf Fact known
      → AllOf Fact (with_question question known)
  each_more question known is each = by_test (list_any (same_question question) known)
    where
      by_test : (b : Bool) → AllOf Fact (if b then known else known ++ (question ∷ []))
      by_test true = each
      by_test false = each_of_lists Fact known (question ∷ []) each (is, tt)

  pub each_of_both : (new known : List Question) → AllOf Fact new → AllOf Fact known
      → AllOf Fact (with_questions new known)
  each_of_both [] known these those = those
  each_of_both (question ∷ new) known these those =
      each_of_both new (with_question question known) these.1
      (each_more question known these.0 those)

-- and back
pub each_one : (Fact : Question → Type 0) (questions : List Question) (question : Question)
    → AllOf Fact questions → AnyOf (λ other. other ≡ question) questions → Fact question
each_one Fact [] question each one = absurd one
each_one Fact (other ∷ questions) question each (inl same) = subst Fact same each.0
each_one Fact (other ∷ questions) question each (inr later) =
    each_one Fact questions question each.1 later

pub each_back : (Fact : Question → Type 0) (new known : List Question)
    → AllOf Fact (with_questions new known) → AllOf Fact new
each_back Fact [] known each = tt
each_back Fact (question ∷ new) known each = (
  each_one Fact (with_questions (question ∷ new) known) question each
      (one_of_both (λ other. other ≡ question) (question ∷ new) known (inl (inl refl))),
  each_back Fact new (with_question question known) each,
)
