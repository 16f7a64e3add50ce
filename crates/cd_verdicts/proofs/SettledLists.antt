-- Verdicts after which the questions of a list are settled, as those that have no element.
use Rattle.std.proofs.Common.{◌≡◌, ◌⊎◌, ◌+◌, ℕ, List, [], ◌∷◌, ◌++◌, Some, length, map, take, drop, slice_get}
use Rattle.std.proofs.Common.{inl, inr, refl, sym, ap, subst, ◌∙◌, append_assoc, add-one}
use Rattle.std.proofs.lemmas.List.{map-append, take-append-drop, take_at}
use Rattle.cd_sets.specs.declared.question.Question.{Question}
use Rattle.cd_model.specs.AllOf.{AllOf, AnyOf}
use Rattle.cd_model.specs.Thing.{Thing}
use Rattle.cd_rules.specs.Machine.{NotIn}
use Rattle.cd_rules.specs.Right.{Differ}
use Rattle.cd_model.proofs.Ones.{each_weaker, each_of_two, one_on_right}
use Rattle.cd_elements.specs.Table.{element_at}
use Rattle.cd_verdicts.specs.declared.verdict.Verdict.{Verdict}
use Rattle.cd_verdicts.specs.declared.verdict.Verdict.TheVariants.{Empty, Inhabited}
use Rattle.cd_verdicts.specs.Witnesses.{witnesses_in}
use Rattle.cd_verdicts.specs.Verdicts.{family, without_elements}
use Rattle.cd_verdicts.proofs.QuestionsDiffer.{differ_joined, differ_on_left, differ_on_right, differ_apart, apart_turned, take_next, none_before}
use Rattle.cd_verdicts.proofs.VerdictsFound.{asked}

asked_alone : (list : List Question) → asked (without_elements list) ≡ list
asked_alone [] = refl
asked_alone (question ∷ list) = ap (λ rest. question ∷ rest) (asked_alone list)

pub asked_settled : (kept : List (Question × Verdict)) (list : List Question)
    → asked (kept ++ without_elements list) ≡ asked kept ++ list
asked_settled kept list = map-append (λ (one : Question × Verdict). one.0) kept (without_elements list)
    ∙ ap (λ more. asked kept ++ more) (asked_alone list)

family_alone : (list : List Question) → family (without_elements list) ≡ list
family_alone [] = refl
family_alone (question ∷ list) = ap (λ rest. question ∷ rest) (family_alone list)

pub family_joined : (kept more : List (Question × Verdict)) → family (kept ++ more) ≡ family kept ++ family more
family_joined [] more = refl
family_joined ((question, Empty) ∷ kept) more = ap (λ rest. question ∷ rest) (family_joined kept more)
family_joined ((question, Inhabited id) ∷ kept) more = family_joined kept more

pub family_settled : (kept : List (Question × Verdict)) (list : List Question)
    → family (kept ++ without_elements list) ≡ family kept ++ list
family_settled kept list = family_joined kept (without_elements list) ∙ ap (λ more. family kept ++ more) (family_alone list)

-- where verdicts begin with some others, their questions without elements begin with those of the others
pub family_begins : (before kept : List (Question × Verdict)) → take (length before) kept ≡ before
    → take (length (family before)) (family kept) ≡ family before
family_begins before kept begins =
    ap (λ (all : List (Question × Verdict)). take (length (family before)) (family all))
    (sym (take-append-drop (length before) kept) ∙ ap (λ (first : List (Question × Verdict)). first ++ rest) begins)
    ∙ ap (take (length (family before))) (family_joined before rest)
    ∙ take_at (family before) (family rest) _ refl
  where
    rest : List (Question × Verdict)
    rest = drop (length before) kept

no_witnesses : (table : List Thing) (list : List Question) → witnesses_in table (without_elements list) ≡ []
no_witnesses table [] = refl
no_witnesses table (question ∷ list) = no_witnesses table list

pub witnesses_settled : (table : List Thing) (kept : List (Question × Verdict)) (list : List Question)
    → witnesses_in table (kept ++ without_elements list) ≡ witnesses_in table kept
witnesses_settled table [] list = no_witnesses table list
witnesses_settled table ((question, Empty) ∷ kept) list = witnesses_settled table kept list
witnesses_settled table ((question, Inhabited id) ∷ kept) list =
    ap (λ rest. (question, element_at table id) ∷ rest) (witnesses_settled table kept list)

-- a fact of each question of a list is one of each that is settled
pub each_settled : (fact : Question → Type 0) (list : List Question) → AllOf fact list
    → AllOf (λ one. fact one.0) (without_elements list)
each_settled fact [] each = tt
each_settled fact (question ∷ list) each = (each.0, each_settled fact list each.1)

pub each_verdict : (fact : Verdict → Type 0) (list : List Question) → fact Empty → AllOf (λ one. fact one.1) (without_elements list)
each_verdict fact [] is = tt
each_verdict fact (question ∷ list) is = (is, each_verdict fact list is)

-- a question with a verdict is one without element, or one with a witness
pub with_or_without : (table : List Thing) (kept : List (Question × Verdict)) (question : Question)
    → AnyOf (λ other. other ≡ question) (asked kept)
    → AnyOf (λ other. other ≡ question) (family kept)
    ⊎ AnyOf (λ other. other ≡ question) (map (λ witness. witness.0) (witnesses_in table kept))
with_or_without table [] question is = elim is [ ]
with_or_without table ((other, Empty) ∷ kept) question (inl same) = inl (inl same)
with_or_without table ((other, Empty) ∷ kept) question (inr later) = further (with_or_without table kept question later)
  where
    further : AnyOf (λ other. other ≡ question) (family kept)
        ⊎ AnyOf (λ other. other ≡ question) (map (λ witness. witness.0) (witnesses_in table kept))
        → AnyOf (λ other. other ≡ question) (other ∷ family kept)
        ⊎ AnyOf (λ other. other ≡ question) (map (λ witness. witness.0) (witnesses_in table kept))
    further (inl is) = inl (inr is)
    further (inr is) = inr is
with_or_without table ((other, Inhabited id) ∷ kept) question (inl same) = inr (inl same)
with_or_without table ((other, Inhabited id) ∷ kept) question (inr later) = further (with_or_without table kept question later)
  where
    further : AnyOf (λ other. other ≡ question) (family kept)
        ⊎ AnyOf (λ other. other ≡ question) (map (λ witness. witness.0) (witnesses_in table kept))
        → AnyOf (λ other. other ≡ question) (family kept)
        ⊎ AnyOf (λ other. other ≡ question) (other ∷ map (λ witness. witness.0) (witnesses_in table kept))
    further (inl is) = inl is
    further (inr is) = inr (inr is)

-- a question with a witness has a verdict
pub witness_is_asked : (table : List Thing) (kept : List (Question × Verdict)) (question : Question)
    → AnyOf (λ witness. witness.0 ≡ question) (witnesses_in table kept) → AnyOf (λ other. other ≡ question) (asked kept)
witness_is_asked table [] question is = elim is [ ]
witness_is_asked table ((other, Empty) ∷ kept) question is = inr (witness_is_asked table kept question is)
witness_is_asked table ((other, Inhabited id) ∷ kept) question (inl same) = inl same
witness_is_asked table ((other, Inhabited id) ∷ kept) question (inr later) = inr (witness_is_asked table kept question later)

-- so where the questions of the list differ from those without element and from those with a witness, they can be settled
pub can_be_settled : (table : List Thing) (kept : List (Question × Verdict)) (list : List Question) → Differ (asked kept)
    → Differ (family kept ++ list ++ map (λ witness. witness.0) (witnesses_in table kept)) → Differ (asked kept ++ list)
can_be_settled table kept list differ once =
    differ_joined (asked kept) list differ (differ_on_right (family kept) list first)
    (each_of_two (NotIn (family kept)) (NotIn with_witness) (NotIn (asked kept)) in_neither list (differ_apart (family kept) list first)
    (apart_turned list with_witness (each_weaker (NotIn (family kept ++ list)) (NotIn list)
    (λ question none there. none (one_on_right (λ other. other ≡ question) (family kept) list there)) with_witness
    (differ_apart (family kept ++ list) with_witness once))))
  where
    with_witness : List Question
    with_witness = map (λ witness. witness.0) (witnesses_in table kept)

    first : Differ (family kept ++ list)
    first = differ_on_left (family kept ++ list) with_witness once

    in_neither : (question : Question) → NotIn (family kept) question → NotIn with_witness question → NotIn (asked kept) question
    in_neither question one other there = by_side (with_or_without table kept question there)
      where
        by_side : AnyOf (λ other. other ≡ question) (family kept) ⊎ AnyOf (λ other. other ≡ question) with_witness → ⊥
        by_side (inl is) = one is
        by_side (inr is) = other is

-- with the next question of a list, more of it is settled
pub next_settled : (before kept after : List (Question × Verdict)) (list : List Question) (place : ℕ) (question : Question)
    → kept ≡ before ++ without_elements (take place list) → slice_get list place ≡ Some question
    → after ≡ kept ++ (question, Empty) ∷ [] → after ≡ before ++ without_elements (take (place + 1) list)
next_settled before kept after list place question are at added =
    added ∙ ap (λ (kept : List (Question × Verdict)). kept ++ (question, Empty) ∷ []) are
    ∙ append_assoc before (without_elements (take place list)) ((question, Empty) ∷ [])
    ∙ ap (λ (more : List (Question × Verdict)). before ++ more)
    (sym (map-append (λ (question : Question). (question, Empty)) (take place list) (question ∷ []))
    ∙ ap without_elements (sym (rw add-one (take_next list place question at))))

-- and it has no verdict before
pub next_unsettled : (before kept : List (Question × Verdict)) (list : List Question) (place : ℕ) (question : Question)
    → Differ (asked before ++ list) → kept ≡ before ++ without_elements (take place list) → slice_get list place ≡ Some question
    → NotIn (asked kept) question
next_unsettled before kept list place question differ are at =
    subst (λ all. NotIn all question) (sym (ap asked are ∙ asked_settled before (take place list)))
    (none_before (asked before) list place question differ at)
