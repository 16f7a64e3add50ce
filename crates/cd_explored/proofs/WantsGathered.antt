-- What steps gather is wanted.
use Rattle.std.proofs.Common.{◌≡◌, ◌<◌, ◌+◌, ℕ, List, take, get_or, length, inl, inr, Some, sym, ap, subst}
use Rattle.std.proofs.Common.{◌∙◌, arith}
use Rattle.std.proofs.lemmas.Bool.{cases_eq}
use Rattle.std.proofs.lemmas.List.Elements.{Contains-append_left}
use Rattle.std.proofs.lemmas.Option.{same_Some}
use Rattle.std.specs.List.{slice_get, Contains}
use Rattle.cd_explored.specs.declared.step.Step.{Step}
use Rattle.cd_explored.specs.declared.step.Step.TheVariants.{Gathers}
use Rattle.cd_explored.specs.declared.want.Want.{Want}
use Rattle.cd_explored.specs.declared.want.Want.TheVariants.{Captures}
use Rattle.cd_explored.specs.Inner.Reached.{Rows}
use Rattle.cd_explored.specs.Inner.Wanted.{GrowTo, AreFirst, AreGatheredBy, AreGathered}
use Rattle.cd_explored.proofs.GrowingWants.{still_wanted}
use Rattle.cd_explored.proofs.Listed.{contains_got, one_more}

abbrev gatherer : ℕ → Step → ℕ
gatherer number (Gathers variable item next) = variable
gatherer number step = number

abbrev gathered_at : ℕ → Step → ℕ
gathered_at number (Gathers variable item next) = next
gathered_at number step = number

pub still_contained : (old new : List Want) → GrowTo old new → (want : Want) → Contains old want
    → Contains new want
still_contained old new (more, are) want has =
    subst (λ (wants : List Want). Contains wants want) (sym are) (Contains-append_left old more want has)

pub still_gathered : (old new : List Want) → GrowTo old new → (row : List Step)
    → AreGatheredBy old row → AreGatheredBy new row
still_gathered old new grow row before variable item next has =
    still_contained old new grow (Captures variable next) (before variable item next has)

pub still_first : (old new : List Want) → GrowTo old new → (variables : ℕ) → AreFirst old variables
    → AreFirst new variables
still_first old new grow variables first variable below =
    still_wanted old new grow variable (Captures variable 0) (first variable below)

pub still_all_gathered : (old new : List Want) → GrowTo old new → (rows : Rows)
    → AreGathered old rows → AreGathered new rows
still_all_gathered old new grow rows before number row there =
    still_gathered old new grow row (before number row there)

-- with a step that gathers
pub gathers_more : (old new : List Want) → GrowTo old new → (row : List Step) (k : ℕ) (step : Step)
    → k < length row → step ≡ get_or row k step → (variable item next number : ℕ)
    → step ≡ Gathers variable item next → slice_get new number ≡ Some (Captures variable next)
    → AreGatheredBy old (take k row) → AreGatheredBy new (take (k + 1) row)
gathers_more old new grow row k step below is variable item next number gathers wanted before other part
    last has = elim (one_more row k step below is (Gathers other part last) has) [
      | inl earlier ↦ still_contained old new grow (Captures other last) (before other part last earlier)
      | inr same ↦
          let both = sym gathers ∙ same in
          subst (λ (v : ℕ). Contains new (Captures v last)) (ap (gatherer variable) both)
          (subst (λ (n : ℕ). Contains new (Captures variable n)) (ap (gathered_at next) both)
          (contains_got new number (Captures variable next) wanted))
    ]

-- with another step
pub gathers_no_more : (wants : List Want) (row : List Step) (k : ℕ) (step : Step) → k < length row
    → step ≡ get_or row k step → ((variable item next : ℕ) → step ≡ Gathers variable item next → ⊥)
    → AreGatheredBy wants (take k row) → AreGatheredBy wants (take (k + 1) row)
gathers_no_more wants row k step below is none before variable item next has =
    elim (one_more row k step below is (Gathers variable item next) has) [
      | inl earlier ↦ before variable item next earlier
      | inr same ↦ absurd (none variable item next same)
    ]

-- of one row more
pub rows_more : (old new : List Want) → GrowTo old new → (rows : Rows) (k : ℕ) (row : List Step)
    → slice_get rows k ≡ Some row → AreGatheredBy new row
    → ((number : ℕ) (one : List Step) → number < k → slice_get rows number ≡ Some one
    → AreGatheredBy old one)
    → (number : ℕ) (one : List Step) → number < k + 1 → slice_get rows number ≡ Some one
    → AreGatheredBy new one
rows_more old new grow rows k row there now before number one below got = elim (cases_eq number k) [
  | inl same ↦ subst (AreGatheredBy new)
      (same_Some row one (sym there ∙ ap (slice_get rows) (sym same) ∙ got)) now
  | inr differs ↦ still_gathered old new grow one (before number one (omega (arith, below, differs)) got)
]
