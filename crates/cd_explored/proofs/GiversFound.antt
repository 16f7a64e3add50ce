-- The steps that give a variable something are those of the places that are gone over.
use Rattle.std.proofs.Common.{◌≡◌, ℕ, Bool, true, false, List, [], ◌∷◌, ◌++◌, inl, inr, Option, Some, None, refl, sym}
use Rattle.std.proofs.Common.{◌+◌, ◌<◌, suc, length, drop, get_or, ap, subst, ◌∙◌, append_assoc, drop-cons, arith, if◌then◌else◌}
use Rattle.std.specs.List.{slice_get}
use Rattle.std.specs.Option.{unwrap_or}
use Rattle.cd_model.specs.AllOf.{AllOf, AnyOf}
use Rattle.cd_model.proofs.Ones.{each_of_lists, one_on_left, one_on_right}
use Rattle.cd_model.proofs.ByNumber.{all_got}
use Rattle.cd_explored.specs.declared.givers.Giver.{Giver}
use Rattle.cd_explored.specs.declared.step.Step.{Step}
use Rattle.cd_explored.specs.Inner.Givers.{gives, givers_in, givers_of, row_of}
use Rattle.cd_explored.specs.Inner.Plan.{IsSoundStep}
use Rattle.cd_explored.specs.Inner.Reached.{Rows}
use Rattle.cd_explored.proofs.Listed.{contains_any, got_contains}

abbrev pub giver : ℕ → Step → Giver
giver number step = record { number = number; step = step }

module _ (variable : ℕ) where
  -- a fact of each step of a row that gives something is one of the givers
  each_in : (Fact : Giver → Type 0) (number : ℕ) (row : List Step)
      → ((step : Step) → AnyOf (λ other. other ≡ step) row → gives variable step ≡ true
      → Fact (giver number step))
      → AllOf Fact (givers_in variable number row)
  each_in Fact number [] is = tt
  each_in Fact number (step ∷ row) is = by_test (gives variable step) refl
      (each_in Fact number row (λ other later. is other (inr later)))
    where
      by_test : (test : Bool) → gives variable step ≡ test → AllOf Fact (givers_in variable number row)
          → AllOf Fact (if test then giver number step ∷ givers_in variable number row
          else givers_in variable number row)
      by_test true does later = (is step (inl refl) does, later)
      by_test false fails later = later

  one_in : (number : ℕ) (row : List Step) (step : Step) → AnyOf (λ other. other ≡ step) row
      → gives variable step ≡ true
      → AnyOf (λ other. other ≡ giver number step) (givers_in variable number row)
  one_in number [] step among does = absurd among
  one_in number (other ∷ row) step (inl same) does = rw (ap (gives variable) same ∙ does)
      (inl (ap (giver number) same))
  one_in number (other ∷ row) step (inr later) does =
      by_test (gives variable other) (one_in number row step later does)
    where
      by_test : (test : Bool)
          → AnyOf (λ one. one ≡ giver number step) (givers_in variable number row)
          → AnyOf (λ one. one ≡ giver number step) (if test
          then giver number other ∷ givers_in variable number row
          else givers_in variable number row)
      by_test true found = inr found
      by_test false found = found

  module _ (rows : Rows) where
    pub each_giver : (Fact : Giver → Type 0) (numbers : List ℕ)
        → ((number : ℕ) (row : List Step) (step : Step) → AnyOf (λ other. other ≡ number) numbers
        → slice_get rows number ≡ Some row → AnyOf (λ other. other ≡ step) row
        → gives variable step ≡ true → Fact (giver number step))
        → AllOf Fact (givers_of variable rows numbers)
    each_giver Fact [] is = tt
    each_giver Fact (number ∷ numbers) is = each_of_lists Fact
        (givers_in variable number (row_of rows number)) (givers_of variable rows numbers)
        (by_row (slice_get rows number) refl)
        (each_giver Fact numbers (λ other row step later. is other row step (inr later)))
      where
        by_row : (found : Option (List Step)) → slice_get rows number ≡ found
            → AllOf Fact (givers_in variable number (unwrap_or found []))
        by_row None there = tt
        by_row (Some row) there = each_in Fact number row
            (λ step among does. is number row step (inl refl) there among does)

    pub giver_there : (numbers : List ℕ) (number : ℕ) (row : List Step) (step : Step)
        → AnyOf (λ other. other ≡ number) numbers → slice_get rows number ≡ Some row
        → AnyOf (λ other. other ≡ step) row → gives variable step ≡ true
        → AnyOf (λ other. other ≡ giver number step) (givers_of variable rows numbers)
    giver_there [] number row step among there has does = absurd among
    giver_there (other ∷ numbers) number row step (inl same) there has does =
        one_on_left (λ one. one ≡ giver number step)
        (givers_in variable other (row_of rows other)) (givers_of variable rows numbers)
        (subst (λ (k : ℕ). AnyOf (λ one. one ≡ giver number step)
        (givers_in variable k (row_of rows k))) (sym same)
        (subst (λ (found : Option (List Step)). AnyOf (λ one. one ≡ giver number step)
        (givers_in variable number (unwrap_or found []))) (sym there)
        (one_in number row step has does)))
    giver_there (other ∷ numbers) number row step (inr later) there has does =
        one_on_right (λ one. one ≡ giver number step)
        (givers_in variable other (row_of rows other)) (givers_of variable rows numbers)
        (giver_there numbers number row step later there has does)

module _ (variable : ℕ) (rows : Rows) where
  -- with those of one place more, and with those of the places that are left, they are all
  pub givers_more : (numbers : List ℕ) (k : ℕ) → k < length numbers → (row : List Step)
      → row_of rows (get_or numbers k 0) ≡ row → (old new total : List Giver)
      → new ≡ old ++ givers_in variable (get_or numbers k 0) row
      → old ++ givers_of variable rows (drop k numbers) ≡ total
      → new ++ givers_of variable rows (drop (k + 1) numbers) ≡ total
  givers_more numbers k below row found old new total added before =
      let number = get_or numbers k 0 in
      let later = givers_of variable rows (drop (k + 1) numbers) in
      let next : k + 1 ≡ suc k = omega arith in
      ap (λ some. some ++ later) added
      ∙ append_assoc old (givers_in variable number row) later
      ∙ ap (λ steps. old ++ (givers_in variable number steps ++ later)) (sym found)
      ∙ ap (λ n. old ++ (givers_in variable number (row_of rows number) ++ givers_of variable rows (drop n numbers))) next
      ∙ ap (λ left. old ++ givers_of variable rows left) (sym (drop-cons numbers k 0 below))
      ∙ before

  pub sound_givers : AllOf (AllOf IsSoundStep) rows → (numbers : List ℕ)
      → AllOf (λ giver. IsSoundStep giver.step) (givers_of variable rows numbers)
  sound_givers sound numbers = each_giver variable rows (λ giver. IsSoundStep giver.step) numbers
      (λ number row step among there has does. all_got IsSoundStep row (contains_any row step has).0 step
      (all_got (AllOf IsSoundStep) rows number row sound there)
      (got_contains row step (contains_any row step has)))
