-- The places that the steps of a table lead to, by the entries of the table.
use Rattle.std.proofs.Common.{◌≡◌, ℕ, List, [], ◌∷◌, inl, inr, Option, refl}
use Rattle.cd_sets.specs.declared.question.Question.{Question}
use Rattle.cd_model.specs.AllOf.{AllOf}
use Rattle.cd_filter.specs.Table.{Place, Step, Takes, Puts, Leads, Gathers, Table, HasPlace, IsAmong}
use Rattle.cd_filter.specs.Table.{HasStep}
use Rattle.cd_filter.proofs.Steps.{find_entry}
use Rattle.cd_explored.specs.NextPlaces.{NextHas}

-- what follows from a fact of the place
pub next_weaker : (one other : Place → Type 0) → ((place : Place) → one place → other place)
    → (step : Step) → NextHas one step → NextHas other step
next_weaker one other weaker (Takes variable) has = tt
next_weaker one other weaker (Puts variable constant) has = tt
next_weaker one other weaker (Leads but next) has = weaker next has
next_weaker one other weaker (Gathers variable item next) has = weaker next has

module _ (fact : Place → Type 0) where
  of_steps : (steps : List Step)
      → ((but : Option ℕ) (next : Place) → IsAmong (Leads but next) steps → fact next)
      → ((variable : ℕ) (item : Question) (next : Place)
      → IsAmong (Gathers variable item next) steps → fact next)
      → AllOf (NextHas fact) steps
  of_steps [] leads gathers = tt
  of_steps (step ∷ steps) leads gathers = (
    here step (λ but next same. leads but next (inl same))
        (λ variable item next same. gathers variable item next (inl same)),
    of_steps steps (λ but next among. leads but next (inr among))
        (λ variable item next among. gathers variable item next (inr among)),
  )
    where
      here : (one : Step) → ((but : Option ℕ) (next : Place) → one ≡ Leads but next → fact next)
          → ((variable : ℕ) (item : Question) (next : Place) → one ≡ Gathers variable item next
          → fact next)
          → NextHas fact one
      here (Takes variable) leads gathers = tt
      here (Puts variable constant) leads gathers = tt
      here (Leads but next) leads gathers = leads but next refl
      here (Gathers variable item next) leads gathers = gathers variable item next refl

  of_entries : (table : Table)
      → ((place next : Place) (but : Option ℕ) → HasStep table place (Leads but next) → fact next)
      → ((place next : Place) (variable : ℕ) (item : Question)
      → HasStep table place (Gathers variable item next) → fact next)
      → AllOf (λ entry. AllOf (NextHas fact) entry.1) table
  of_entries [] leads gathers = tt
  of_entries (entry ∷ table) leads gathers = (
    of_steps entry.1 (λ but next among. leads entry.0 next but (inl (refl, among)))
        (λ variable item next among. gathers entry.0 next variable item (inl (refl, among))),
    of_entries table (λ place next but has. leads place next but (inr has))
        (λ place next variable item has. gathers place next variable item (inr has)),
  )

  -- each place of the table has the fact, so each place that its steps lead to does
  pub next_have : (table : Table) → AllOf (λ entry. fact entry.0) table
      → ((place next : Place) (but : Option ℕ) → HasStep table place (Leads but next)
      → HasPlace table next)
      → ((place next : Place) (variable : ℕ) (item : Question)
      → HasStep table place (Gathers variable item next) → HasPlace table next)
      → AllOf (λ entry. AllOf (NextHas fact) entry.1) table
  next_have table all leads gathers = of_entries table
      (λ place next but has. at_place next (leads place next but has))
      (λ place next variable item has. at_place next (gathers place next variable item has))
    where
      at_place : (next : Place) → HasPlace table next → fact next
      at_place next here = (find_entry (λ entry. fact entry.0) table next here all).fact
