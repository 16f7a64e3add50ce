-- Whether a label has a cell, as the code asks it; and the lists that may be left of a row.
use Rattle.std.proofs.Common.{◌≡◌, Bool, true, false, ◌||◌, List, [], ◌∷◌, ◌++◌, map, inl, inr, refl}
use Rattle.std.proofs.Common.{sym, ap, subst, ◌∙◌, bytes_eq}
use Rattle.std.proofs.lemmas.Bool.{true≢false}
use Rattle.cd_sets.specs.declared.question.Question.{Question}
use Rattle.cd_syntax.specs.Name.{Name}
use Rattle.cd_model.specs.AllOf.{AnyOf}
use Rattle.cd_model.specs.Formula.{Graph}
use Rattle.cd_rules.specs.Rows.{Cell, Row}
use Rattle.cd_records.specs.Inner.Leaving.{AreChoices, Choice, first_choice, some_of}
use Rattle.cd_records.specs.Inner.Rests.{AddsRests, Rest, rests_of_choices}
use Rattle.cd_records.specs.Inner.Rows.{has_cell}
use Rattle.cd_records.proofs.Lookups.{not_same, same_name}

one_there : (cells : List (Name × Cell)) (label : Name) → has_cell cells label ≡ true
    → AnyOf (λ cell. cell.0 ≡ label) cells
one_there [] label has = absurd (true≢false (sym has))
one_there (cell ∷ cells) label has =
    by_name (bytes_eq cell.0 label) refl has (one_there cells label)
  where
    by_name : (same : Bool) → bytes_eq cell.0 label ≡ same → same || has_cell cells label ≡ true
        → (has_cell cells label ≡ true → AnyOf (λ cell. cell.0 ≡ label) cells)
        → AnyOf (λ cell. cell.0 ≡ label) (cell ∷ cells)
    by_name true same has further = inl (same_name cell.0 label same)
    by_name false differ has further = inr (further has)

none_there : (cells : List (Name × Cell)) (label : Name) → has_cell cells label ≡ false
    → AnyOf (λ cell. cell.0 ≡ label) cells → ⊥
none_there [] label has one = one
none_there (cell ∷ cells) label has one =
    by_name (bytes_eq cell.0 label) refl has one (none_there cells label)
  where
    by_name : (same : Bool) → bytes_eq cell.0 label ≡ same → same || has_cell cells label ≡ false
        → AnyOf (λ cell. cell.0 ≡ label) (cell ∷ cells)
        → (has_cell cells label ≡ false → AnyOf (λ cell. cell.0 ≡ label) cells → ⊥) → ⊥
    by_name true same has one further = true≢false has
    by_name false differ has (inl same) further = not_same cell.0 label differ same
    by_name false differ has (inr later) further = further has later

module _ (graph : Graph) (label : Name) (row : Row) (old new : List Rest) where
  pub adds_all : has_cell row.cells label ≡ true → (left : List Question) → left ≡ some_of row
      → new ≡ old ++ (row, left) ∷ [] → AddsRests graph label row old new
  adds_all has left same added = (
    some_of row ∷ [],
    inl (one_there row.cells label has, refl),
    added ∙ ap (λ (left : List Question). old ++ (row, left) ∷ []) same,
  )

  by_lefts : (choices : List Choice) → rests_of_choices row choices
      ≡ map (λ left. (row, left)) (map (λ choice. choice.left) choices)
  by_lefts [] = refl
  by_lefts (choice ∷ choices) =
      ap (λ (rests : List Rest). (row, choice.left) ∷ rests) (by_lefts choices)

  pub adds_choices : has_cell row.cells label ≡ false → (choices : List Choice)
      → AreChoices graph (some_of row) (first_choice row ∷ []) choices
      → new ≡ old ++ rests_of_choices row choices → AddsRests graph label row old new
  adds_choices none choices are added = (
    map (λ choice. choice.left) choices,
    inr (none_there row.cells label none, (choices, are, refl)),
    added ∙ ap (λ (rests : List Rest). old ++ rests) (by_lefts choices),
  )
