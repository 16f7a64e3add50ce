-- What loops over choices, questions and rows have made so far, and what they make of the rest.
use Rattle.std.proofs.Common.{◌≡◌, ◌<◌, ◌≤◌, ◌+◌, ℕ, List, [], ◌∷◌, ◌++◌, map, drop, get_or, length, refl}
use Rattle.std.proofs.Common.{sym, ap, subst, ◌∙◌, append_assoc, append-nil, ◌⊎◌, inl, inr}
use Rattle.std.proofs.lemmas.List.{at_drop_more, at_drop_all}
use Rattle.std.specs.Borrow.{Bor}
use Rattle.cd_sets.specs.declared.question.Question.{Question}
use Rattle.cd_syntax.specs.Name.{Name}
use Rattle.cd_model.specs.Formula.{Graph}
use Rattle.cd_needs.specs.RecordTypes.{plain_row}
use Rattle.cd_needs.specs.declared.row.Row.{Row as CodeRow}
use Rattle.cd_rules.specs.Rows.{Row}
use Rattle.cd_records.specs.declared.choice.Choice.{Choice as CodeChoice}
use Rattle.cd_records.specs.Inner.Leaving.{AddsStep, AreChoices, AreSteps, Choice, IsAddedIf, IsStep}
use Rattle.cd_records.specs.Inner.Leaving.{leave, take}
use Rattle.cd_records.specs.Inner.Plain.{plain_choice, plain_questions}
use Rattle.cd_records.specs.Inner.Rests.{AddsRests, AreRests, Rest}

module _ (graph : Graph) where
  -- what a choice becomes
  pub step_added : (question : Question) (choice : Choice) (old mid new : List Choice)
      → IsAddedIf graph (take question choice) old mid
      → new ≡ mid ++ leave question choice ∷ [] → AddsStep graph question choice old new
  step_added question choice old mid new (inl (has, added)) last = (
    take question choice ∷ (leave question choice ∷ []),
    inl (has, refl),
    last ∙ ap (λ some. some ++ leave question choice ∷ []) added
        ∙ append_assoc old (take question choice ∷ []) (leave question choice ∷ []),
  )
  step_added question choice old mid new (inr (none, same)) last = (
    leave question choice ∷ [],
    inr (none, refl),
    last ∙ ap (λ some. some ++ leave question choice ∷ []) same,
  )

  -- over choices
  module _ (question : Question) (choices : List CodeChoice) where
    abbrev SoFar : ℕ → List Choice → Type 0
    SoFar k made = (rest : List Choice)
        → AreSteps graph question (map plain_choice (drop k choices)) rest
        → AreSteps graph question (map plain_choice choices) (made ++ rest)

    pub steps_more : (k : ℕ) (choice : CodeChoice) → k < length choices
        → choice ≡ get_or choices k choice → (old new : List Choice)
        → AddsStep graph question (plain_choice choice) old new → SoFar k old
        → SoFar (k + 1) new
    steps_more k choice below is old new (first, step, added) so_far rest are =
        subst (AreSteps graph question (map plain_choice choices))
        (sym (ap (λ some. some ++ rest) added ∙ append_assoc old first rest))
        (so_far (first ++ rest)
        (subst (λ (some : List Choice). AreSteps graph question some (first ++ rest))
        (sym (at_drop_more (map plain_choice) choices k choice below
        ∙ ap (λ (one : CodeChoice). plain_choice one ∷ map plain_choice (drop (k + 1) choices))
        (sym is)))
        (first, rest, step, are, refl)))

    pub steps_all : (k : ℕ) → length choices ≤ k → (made : List Choice) → SoFar k made
        → AreSteps graph question (map plain_choice choices) made
    steps_all k past made so_far = subst (AreSteps graph question (map plain_choice choices))
        (append-nil made) (so_far [] (subst (λ (some : List Choice).
        AreSteps graph question some []) (sym (at_drop_all (map plain_choice) choices k past))
        refl))

  -- over questions
  module _ (some : List (Bor Question)) (start : List Choice) where
    abbrev ByThese : ℕ → List Choice → Type 0
    ByThese k made = (all : List Choice)
        → AreChoices graph (plain_questions (drop k some)) made all
        → AreChoices graph (plain_questions some) start all

    pub choices_more : (k : ℕ) (question : Bor Question) → k < length some
        → question ≡ get_or some k question → (old new : List Choice)
        → AreSteps graph question.now old new → ByThese k old → ByThese (k + 1) new
    choices_more k question below is old new steps so_far all are = so_far all
        (subst (λ (those : List Question). AreChoices graph those old all)
        (sym (at_drop_more plain_questions some k question below
        ∙ ap (λ (one : Bor Question). one.now ∷ plain_questions (drop (k + 1) some)) (sym is)))
        (new, steps, are))

    pub choices_all : (k : ℕ) → length some ≤ k → (made : List Choice) → ByThese k made
        → AreChoices graph (plain_questions some) start made
    choices_all k past made so_far = so_far made (subst (λ (those : List Question).
        AreChoices graph those made made) (sym (at_drop_all plain_questions some k past)) refl)

  -- over rows
  module _ (label : Name) (rows : List CodeRow) where
    abbrev OfRows : ℕ → List Rest → Type 0
    OfRows k made = (later : List Rest)
        → AreRests graph label (map plain_row (drop k rows)) later
        → AreRests graph label (map plain_row rows) (made ++ later)

    pub rests_more : (k : ℕ) (row : CodeRow) → k < length rows → row ≡ get_or rows k row
        → (old new : List Rest) → AddsRests graph label (plain_row row) old new → OfRows k old
        → OfRows (k + 1) new
    rests_more k row below is old new (lefts, are, added) so_far later further =
        let first = map (λ left. (plain_row row, left)) lefts in
        subst (AreRests graph label (map plain_row rows))
        (sym (ap (λ some. some ++ later) added ∙ append_assoc old first later))
        (so_far (first ++ later)
        (subst (λ (some : List Row). AreRests graph label some (first ++ later))
        (sym (at_drop_more (map plain_row) rows k row below
        ∙ ap (λ (one : CodeRow). plain_row one ∷ map plain_row (drop (k + 1) rows)) (sym is)))
        (lefts, later, are, further, refl)))

    pub rests_all : (k : ℕ) → length rows ≤ k → (made : List Rest) → OfRows k made
        → AreRests graph label (map plain_row rows) made
    rests_all k past made so_far = subst (AreRests graph label (map plain_row rows))
        (append-nil made) (so_far [] (subst (λ (some : List Row). AreRests graph label some [])
        (sym (at_drop_all (map plain_row) rows k past)) refl))
