-- The questions of verdicts, and those of them that have elements.
use Rattle.std.proofs.Common.{◌≡◌, ◌≤◌, ◌⊎◌, List, [], ◌∷◌, ◌++◌, length, map, inl, inr, refl, ap, ◌∙◌, append-nil, arith}
use Rattle.cd_sets.specs.declared.question.Question.{Question}
use Rattle.cd_model.specs.AllOf.{AnyOf}
use Rattle.cd_model.specs.Thing.{Thing}
use Rattle.cd_model.proofs.Ones.{map_of_one}
use Rattle.cd_elements.specs.declared.shape.ElementId.{ElementId}
use Rattle.cd_elements.specs.Table.{element_at}
use Rattle.cd_rules.specs.Machine.{NotIn}
use Rattle.cd_rules.specs.Right.{Differ}
use Rattle.cd_rules.proofs.QuestionsOnce.{in_neither}
use Rattle.cd_verdicts.specs.declared.verdict.Verdict.{Verdict}
use Rattle.cd_verdicts.specs.declared.verdict.Verdict.TheVariants.{Empty, Inhabited}
use Rattle.cd_verdicts.specs.Witnesses.{witnesses_in}
use Rattle.cd_verdicts.specs.Verdicts.{family}
use Rattle.cd_verdicts.proofs.QuestionsDiffer.{differ_joined, differ_on_left, differ_on_right, differ_apart}
use Rattle.cd_verdicts.proofs.SettledLists.{family_joined, with_or_without, witness_is_asked}
use Rattle.cd_verdicts.proofs.VerdictsFound.{asked}

-- the questions that have elements
abbrev pub inhabited : List Thing → List (Question × Verdict) → List Question
inhabited table kept = map (λ witness. witness.0) (witnesses_in table kept)

-- with one more that has an element
pub one_witness_more : (table : List Thing) (kept : List (Question × Verdict)) (question : Question) (id : ElementId)
    → witnesses_in table (kept ++ (question, Inhabited id) ∷ []) ≡ witnesses_in table kept ++ (question, element_at table id) ∷ []
one_witness_more table [] question id = refl
one_witness_more table ((other, Empty) ∷ kept) question id = one_witness_more table kept question id
one_witness_more table ((other, Inhabited one) ∷ kept) question id =
    ap (λ all. (other, element_at table one) ∷ all) (one_witness_more table kept question id)

pub none_empty_more : (kept : List (Question × Verdict)) (question : Question) (id : ElementId)
    → family (kept ++ (question, Inhabited id) ∷ []) ≡ family kept
none_empty_more kept question id = family_joined kept ((question, Inhabited id) ∷ []) ∙ append-nil (family kept)

pub one_asked_more : (kept : List (Question × Verdict)) (question : Question) (verdict : Verdict)
    → asked (kept ++ (question, verdict) ∷ []) ≡ asked kept ++ question ∷ []
one_asked_more [] question verdict = refl
one_asked_more (one ∷ kept) question verdict = ap (λ all. one.0 ∷ all) (one_asked_more kept question verdict)

-- a question has a verdict where it has no element, or has one
module _ (table : List Thing) (question : Question) where
  empty_is_asked : (kept : List (Question × Verdict)) → AnyOf (λ other. other ≡ question) (family kept)
      → AnyOf (λ other. other ≡ question) (asked kept)
  empty_is_asked [] there = there
  empty_is_asked ((other, Empty) ∷ kept) (inl same) = inl same
  empty_is_asked ((other, Empty) ∷ kept) (inr later) = inr (empty_is_asked kept later)
  empty_is_asked ((other, Inhabited id) ∷ kept) there = inr (empty_is_asked kept there)

  pub not_empty : (kept : List (Question × Verdict)) → NotIn (asked kept) question → NotIn (family kept) question
  not_empty kept none there = none (empty_is_asked kept there)

  pub not_inhabited : (kept : List (Question × Verdict)) → NotIn (asked kept) question → NotIn (inhabited table kept) question
  not_inhabited kept none there = none (witness_is_asked table kept question
      (map_of_one (λ witness. witness.0) (λ other. other ≡ question) (witnesses_in table kept) there))

  pub not_asked : (kept : List (Question × Verdict)) → NotIn (family kept) question → NotIn (inhabited table kept) question
      → NotIn (asked kept) question
  not_asked kept no_empty no_other there = by_verdict (with_or_without table kept question there)
    where
      by_verdict : AnyOf (λ other. other ≡ question) (family kept) ⊎ AnyOf (λ other. other ≡ question) (inhabited table kept) → ⊥
      by_verdict (inl empty) = no_empty empty
      by_verdict (inr one) = no_other one

-- where all questions differ, so do those without elements together with those that have some
pub differ_by_verdicts : (table : List Thing) (kept : List (Question × Verdict)) → Differ (asked kept)
    → Differ (family kept ++ inhabited table kept)
differ_by_verdicts table [] differ = tt
differ_by_verdicts table ((question, Empty) ∷ kept) differ = (
  in_neither (family kept) (inhabited table kept) question (not_empty table question kept differ.0) (not_inhabited table question kept differ.0),
  differ_by_verdicts table kept differ.1,
)
differ_by_verdicts table ((question, Inhabited id) ∷ kept) differ =
    let others = differ_by_verdicts table kept differ.1 in
    differ_joined (family kept) (question ∷ inhabited table kept) (differ_on_left (family kept) (inhabited table kept) others)
    (not_inhabited table question kept differ.0, differ_on_right (family kept) (inhabited table kept) others)
    (not_empty table question kept differ.0, differ_apart (family kept) (inhabited table kept) others)

-- there are no more elements than verdicts
pub few_witnesses : (table : List Thing) (kept : List (Question × Verdict)) → length (witnesses_in table kept) ≤ length kept
few_witnesses table [] = omega arith
few_witnesses table ((question, Empty) ∷ kept) = let rest = few_witnesses table kept in omega arith
few_witnesses table ((question, Inhabited id) ∷ kept) = let rest = few_witnesses table kept in omega arith
