-- Lists of things that differ.
use Rattle.std.proofs.Common.{◌≡◌, ℕ, zero, suc, ◌≤◌, List, [], ◌∷◌, ◌++◌, Some, None, length, take, drop, slice_get}
use Rattle.std.proofs.Common.{false, inl, inr, sym, ap, subst, ◌∙◌, true≢false, append_assoc, arith}
use Rattle.std.specs.List.{IsDistinct, AllByRecursion}
use Rattle.std.proofs.lemmas.Map.Keys.{IsDistinct-head, IsDistinct-tail}
use Rattle.std.proofs.lemmas.Option.{none-some, same_Some}
use Rattle.cd_sets.specs.declared.question.Question.{Question}
use Rattle.cd_sets.specs.Asking.{same_question}
use Rattle.cd_sets.proofs.Same.{questions_decide}
use Rattle.cd_model.specs.AllOf.{AllOf, AnyOf}
use Rattle.cd_rules.proofs.Among.{of_each, each_of_its}
use Rattle.cd_model.proofs.Ones.{one_on_left, one_on_right, each_of_all}
use Rattle.cd_rules.specs.Machine.{NotIn}
use Rattle.cd_rules.specs.Right.{Differ}
use Rattle.cd_rules.proofs.QuestionsOnce.{in_neither}

-- questions of which no two are equal differ
none_equal : (question : Question) (questions : List Question)
    → AllByRecursion (λ other. same_question question other ≡ false) questions → NotIn questions question
none_equal question [] unequal there = elim there [ ]
none_equal question (other ∷ questions) unequal (inl same) =
    true≢false (sym ((questions_decide question other).1 (sym same)) ∙ unequal.0)
none_equal question (other ∷ questions) unequal (inr there) = none_equal question questions unequal.1 there

pub distinct_differ : (questions : List Question) → IsDistinct same_question questions → Differ questions
distinct_differ [] distinct = tt
distinct_differ (question ∷ questions) distinct = (
  none_equal question questions (IsDistinct-head same_question question questions distinct),
  distinct_differ questions (IsDistinct-tail same_question question questions distinct),
)

module _ {X : Type 0} where
  -- two lists whose things differ, where none of the second is in the first
  pub differ_joined : (some others : List X) → Differ some → Differ others → AllOf (NotIn some) others → Differ (some ++ others)
  differ_joined [] others differ alike none = alike
  differ_joined (x ∷ some) others differ alike none = (
    in_neither some others x differ.0 (not_first others none),
    differ_joined some others differ.1 alike (not_later others none),
  )
    where
      not_first : (others : List X) → AllOf (NotIn (x ∷ some)) others → NotIn others x
      not_first [] none there = there
      not_first (y ∷ others) none (inl same) = none.0 (inl (sym same))
      not_first (y ∷ others) none (inr there) = not_first others none.1 there

      not_later : (others : List X) → AllOf (NotIn (x ∷ some)) others → AllOf (NotIn some) others
      not_later [] none = tt
      not_later (y ∷ others) none = (λ there. none.0 (inr there), not_later others none.1)

  -- and back
  pub differ_on_left : (some others : List X) → Differ (some ++ others) → Differ some
  differ_on_left [] others differ = tt
  differ_on_left (x ∷ some) others differ =
      (λ there. differ.0 (one_on_left (λ (other : X). other ≡ x) some others there), differ_on_left some others differ.1)

  pub differ_on_right : (some others : List X) → Differ (some ++ others) → Differ others
  differ_on_right [] others differ = differ
  differ_on_right (x ∷ some) others differ = differ_on_right some others differ.1

  pub differ_apart : (some others : List X) → Differ (some ++ others) → AllOf (NotIn some) others
  differ_apart [] others differ = each_of_all (NotIn []) (λ x there. there) others
  differ_apart (x ∷ some) others differ = each_of_its (NotIn (x ∷ some)) others (none (differ_apart some others differ.1))
    where
      none : AllOf (NotIn some) others → (y : X) → AnyOf (λ other. other ≡ y) others → NotIn (x ∷ some) y
      none rest y there (inl same) = differ.0 (one_on_right (λ (other : X). other ≡ x) some others
          (subst (λ y. AnyOf (λ (other : X). other ≡ y) others) (sym same) there))
      none rest y there (inr earlier) = of_each (NotIn some) others y rest there earlier

  -- where none of one list is in another, none of that is in the one
  pub apart_turned : (some others : List X) → AllOf (NotIn some) others → AllOf (NotIn others) some
  apart_turned some others none = each_of_its (NotIn others) some (λ x here there. of_each (NotIn some) others x none there here)

  -- what stands at a place, between those before and those after it
  stands_between : (list : List X) (place : ℕ) (x : X) → slice_get list place ≡ Some x
      → list ≡ take place list ++ x ∷ drop (suc place) list
  stands_between [] place x at = absurd (none-some x at)
  stands_between (y ∷ list) zero x at = ap (λ one. one ∷ list) (same_Some y x at)
  stands_between (y ∷ list) (suc place) x at = ap (λ more. y ∷ more) (stands_between list place x at)

  -- where nothing stands, the list is at its end
  pub past_the_end : (list : List X) (place : ℕ) → slice_get list place ≡ None → length list ≤ place
  past_the_end [] place none = omega arith
  past_the_end (x ∷ list) zero none = absurd (none-some x (sym none))
  past_the_end (x ∷ list) (suc place) none = omega (arith, past_the_end list place none)

  -- the first ones, and the next one
  pub take_next : (list : List X) (place : ℕ) (x : X) → slice_get list place ≡ Some x
      → take (suc place) list ≡ take place list ++ x ∷ []
  take_next [] place x at = absurd (none-some x at)
  take_next (y ∷ list) zero x at = ap (λ one. one ∷ []) (same_Some y x at)
  take_next (y ∷ list) (suc place) x at = ap (λ more. y ∷ more) (take_next list place x at)

  -- it is none of those before it
  pub none_before : (some list : List X) (place : ℕ) (x : X) → Differ (some ++ list) → slice_get list place ≡ Some x
      → NotIn (some ++ take place list) x
  none_before some list place x differ at = (differ_apart (some ++ take place list) (x ∷ drop (suc place) list)
      (subst Differ (ap (λ all. some ++ all) (stands_between list place x at)
      ∙ sym (append_assoc some (take place list) (x ∷ drop (suc place) list))) differ)).0
