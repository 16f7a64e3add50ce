-- The steps of the code and those of a table.
use Rattle.std.proofs.Common.{◌≡◌, ℕ, zero, suc, Bool, true, false, List, [], ◌∷◌, map, inl, inr, Option}
use Rattle.std.proofs.Common.{Some, None, refl, ap, subst, sym, ◌∙◌, true≢false, if◌then◌else◌}
use Rattle.std.proofs.lemmas.Bool.Decides.{eqb_tells}
use Rattle.std.proofs.lemmas.Option.{none-some, same_Some}
use Rattle.std.specs.List.{slice_get, Contains}
use Rattle.cd_sets.specs.declared.question.Question.{Question}
use Rattle.cd_model.specs.AllOf.{AnyOf}
use Rattle.cd_filter.specs.CapturedNodes as plain
use Rattle.cd_filter.specs.CapturedNodes.{Reaches}
use Rattle.cd_filter.specs.Table.{Place, Step, Leads, Gathers, Table, IsAmong, HasStep}
use Rattle.cd_explored.specs.declared.step.Step.{Step as CodeStep}
use Rattle.cd_explored.specs.declared.step.Step.TheVariants as step
use Rattle.cd_explored.specs.Inner.PlainSteps.{IsStep, AreSteps, AreEntries}
use Rattle.cd_explored.specs.Inner.Reached.{Rows, is_left_out, led_to, ReachesBy, itself}
use Rattle.cd_explored.specs.Inner.Reached.{further}
use Rattle.cd_explored.proofs.Listed.{contains_any, any_contains}

-- a step of a table by its kind
abbrev IsLeading : Step → Type 0
IsLeading (Leads but next) = Unit {0}
IsLeading step = ⊥

abbrev left_out : Step → Option ℕ
left_out (Leads but next) = but
left_out step = None

abbrev next_of : Place → Step → Place
next_of place (Leads but next) = next
next_of place step = place

abbrev IsGathering : Step → Type 0
IsGathering (Gathers variable item next) = Unit {0}
IsGathering step = ⊥

abbrev gatherer : ℕ → Step → ℕ
gatherer number (Gathers variable item next) = variable
gatherer number step = number

abbrev after_item : Place → Step → Place
after_item place (Gathers variable item next) = next
after_item place step = place

abbrev place_of : Place × List Step → Place
place_of entry = entry.0

module _ (places : List Place) where
  -- a step of the code is one step of a table
  pub one_step : (code : CodeStep) (is other : Step) → IsStep places code is
      → IsStep places code other → is ≡ other
  one_step (step.Takes variable) is other one same = one ∙ sym same
  one_step (step.Puts variable constant) is other one same = one ∙ sym same
  one_step (step.Leads but number) is other (next, there, one) (last, here, same) =
      one ∙ ap (λ (place : Place). Leads but place) (same_Some next last (sym there ∙ here)) ∙ sym same
  one_step (step.Gathers variable item number) is other (first, next, at_first, there, one)
      (second, last, at_second, here, same) =
      one ∙ ap (λ (place : Place). Gathers variable place.question next)
      (same_Some first second (sym at_first ∙ at_second))
      ∙ ap (λ (place : Place). Gathers variable second.question place)
      (same_Some next last (sym there ∙ here)) ∙ sym same

  -- a step of a row is among the steps, and back
  pub step_of_code : (row : List CodeStep) (steps : List Step) → AreSteps places row steps
      → (code : CodeStep) → AnyOf (λ other. other ≡ code) row
      → (is : Step) × IsAmong is steps × IsStep places code is
  step_of_code [] steps are code among = absurd among
  step_of_code (one ∷ row) [] are code among = absurd are
  step_of_code (one ∷ row) (is ∷ steps) are code (inl same) =
      (is, inl refl, subst (λ (other : CodeStep). IsStep places other is) same are.0)
  step_of_code (one ∷ row) (is ∷ steps) are code (inr later) =
      let found = step_of_code row steps are.1 code later in (found.0, inr found.1, found.2)

  pub code_of_step : (row : List CodeStep) (steps : List Step) → AreSteps places row steps
      → (is : Step) → IsAmong is steps
      → (code : CodeStep) × AnyOf (λ other. other ≡ code) row × IsStep places code is
  code_of_step [] steps are is among = absurd (subst (IsAmong is) are among)
  code_of_step (one ∷ row) [] are is among = absurd are
  code_of_step (one ∷ row) (other ∷ steps) are is (inl same) =
      (one, inl refl, subst (IsStep places one) same are.0)
  code_of_step (one ∷ row) (other ∷ steps) are is (inr later) =
      let found = code_of_step row steps are.1 is later in (found.0, inr found.1, found.2)

  -- where a row has the number, the table has an entry of it, and back
  pub entry_of_row : (rows : Rows) (table : Table) → AreEntries places rows table → (number : ℕ)
      (row : List CodeStep) → slice_get rows number ≡ Some row → (code : CodeStep)
      → Contains row code → (place : Place) × (is : Step)
      × (slice_get (map place_of table) number ≡ Some place) × HasStep table place is
      × IsStep places code is
  entry_of_row [] table are number row there code among = absurd (none-some row there)
  entry_of_row (one ∷ rows) [] are number row there code among = absurd are
  entry_of_row (one ∷ rows) (entry ∷ table) are zero row there code among =
      let found = step_of_code one entry.1 are.0 code (any_contains one code
      (subst (λ (row : List CodeStep). Contains row code) (sym (same_Some one row there)) among)) in
      (entry.0, found.0, refl, inl (refl, found.1), found.2)
  entry_of_row (one ∷ rows) (entry ∷ table) are (suc number) row there code among =
      let found = entry_of_row rows table are.1 number row there code among in
      (found.0, found.1, found.2, inr found.3, found.4)

  pub row_of_entry : (rows : Rows) (table : Table) → AreEntries places rows table → (place : Place)
      (is : Step) → HasStep table place is → (number : ℕ) × (row : List CodeStep) × (code : CodeStep)
      × (slice_get rows number ≡ Some row) × (slice_get (map place_of table) number ≡ Some place)
      × Contains row code × IsStep places code is
  row_of_entry [] table are place is has = absurd (subst (λ (t : Table). HasStep t place is) are has)
  row_of_entry (one ∷ rows) [] are place is has = absurd are
  row_of_entry (one ∷ rows) (entry ∷ table) are place is (inl has) =
      let found = code_of_step one entry.1 are.0 is has.1 in
      (zero, one, found.0, refl, ap Some has.0, contains_any one found.0 found.1, found.2)
  row_of_entry (one ∷ rows) (entry ∷ table) are place is (inr later) =
      let found = row_of_entry rows table are.1 place is later in
      (suc found.0, found.1, found.2, found.3, found.4, found.5, found.6)

  -- the place that a step leads to
  leads_of_code : (variable : ℕ) (code : CodeStep) (number : ℕ) (is : Step)
      → led_to variable code ≡ Some number → IsStep places code is
      → (but : Option ℕ) × (next : Place) × (is ≡ Leads but next) × (but ≡ Some variable → ⊥)
      × (slice_get places number ≡ Some next)
  leads_of_code variable (step.Takes other) number is leads made = absurd (none-some number leads)
  leads_of_code variable (step.Puts other constant) number is leads made =
      absurd (none-some number leads)
  leads_of_code variable (step.Leads but last) number is leads (next, there, one) =
      by_test (is_left_out variable but) refl leads
    where
      not_it : (but : Option ℕ) → is_left_out variable but ≡ false → but ≡ Some variable → ⊥
      not_it None kept same = none-some variable same
      not_it (Some other) kept same = elim (eqb_tells other variable) [
        | inl equal ↦ true≢false (sym equal.0 ∙ kept)
        | inr differs ↦ differs.1 (same_Some other variable same)
      ]

      by_test : (test : Bool) → is_left_out variable but ≡ test
          → (if test then None else Some last) ≡ Some number
          → (but : Option ℕ) × (next : Place) × (is ≡ Leads but next) × (but ≡ Some variable → ⊥)
          × (slice_get places number ≡ Some next)
      by_test true test leads = absurd (none-some number leads)
      by_test false test leads = (
        but,
        next,
        one,
        not_it but test,
        subst (λ (k : ℕ). slice_get places k ≡ Some next) (same_Some last number leads) there,
      )
  leads_of_code variable (step.Gathers other item next) number is leads made =
      absurd (none-some number leads)

  code_leads : (variable : ℕ) (code : CodeStep) (but : Option ℕ) (next : Place)
      → IsStep places code (Leads but next) → (but ≡ Some variable → ⊥)
      → (number : ℕ) × (led_to variable code ≡ Some number) × (slice_get places number ≡ Some next)
  code_leads variable (step.Takes other) but next made kept = absurd (subst IsLeading made tt)
  code_leads variable (step.Puts other constant) but next made kept =
      absurd (subst IsLeading made tt)
  code_leads variable (step.Leads other number) but next (last, there, one) kept = (
    number,
    by_test (is_left_out variable other) refl,
    subst (λ (place : Place). slice_get places number ≡ Some place)
        (sym (ap (next_of last) one)) there,
  )
    where
      found : (other : Option ℕ) → is_left_out variable other ≡ true → other ≡ Some variable
      found None out = absurd (true≢false (sym out))
      found (Some one) out = elim (eqb_tells one variable) [
        | inl same ↦ ap Some same.1
        | inr differs ↦ absurd (true≢false (sym out ∙ differs.0))
      ]

      by_test : (test : Bool) → is_left_out variable other ≡ test
          → (if is_left_out variable other then None else Some number) ≡ Some number
      by_test true test = absurd (kept (ap left_out one ∙ found other test))
      by_test false test = ap (λ (b : Bool). if b then None else Some number) test
  code_leads variable (step.Gathers other item number) but next (first, last, at_first, there, one)
      kept = absurd (subst IsLeading one tt)

  pub code_gathers : (variable : ℕ) (code : CodeStep) (item : Question) (next : Place)
      → IsStep places code (Gathers variable item next)
      → (part number : ℕ) × (code ≡ step.Gathers variable part number)
      × (slice_get places number ≡ Some next)
  code_gathers variable (step.Takes other) item next made = absurd (subst IsGathering made tt)
  code_gathers variable (step.Puts other constant) item next made =
      absurd (subst IsGathering made tt)
  code_gathers variable (step.Leads but number) item next (last, there, one) =
      absurd (subst IsGathering one tt)
  code_gathers variable (step.Gathers other part number) item next
      (first, last, at_first, there, one) = (
        part,
        number,
        ap (λ (v : ℕ). step.Gathers v part number) (sym (ap (gatherer variable) one)),
        subst (λ (place : Place). slice_get places number ≡ Some place)
            (sym (ap (after_item last) one)) there,
      )

  -- the places of the table are these, each once
  module _ (rows : Rows) (table : Table) (are : AreEntries places rows table)
      (same : map place_of table ≡ places)
      (once : (one other : ℕ) (place : Place) → slice_get places one ≡ Some place
      → slice_get places other ≡ Some place → one ≡ other) (variable : ℕ) where
    in_places : (number : ℕ) (place : Place) → slice_get (map place_of table) number ≡ Some place
        → slice_get places number ≡ Some place
    in_places number place there =
        subst (λ (all : List Place). slice_get all number ≡ Some place) same there

    -- the place of a number of the code that has the step
    pub step_there : (number : ℕ) (row : List CodeStep) (code : CodeStep)
        → slice_get rows number ≡ Some row → Contains row code
        → (place : Place) × (is : Step) × (slice_get places number ≡ Some place)
        × HasStep table place is × IsStep places code is
    step_there number row code there among =
        let found = entry_of_row rows table are number row there code among in
        (found.0, found.1, in_places number found.0 found.2, found.3, found.4)

    pub code_there : (number : ℕ) (place : Place) (is : Step) → slice_get places number ≡ Some place
        → HasStep table place is → (row : List CodeStep) × (code : CodeStep)
        × (slice_get rows number ≡ Some row) × Contains row code × IsStep places code is
    code_there number place is there has =
        let found = row_of_entry rows table are place is has in
        let number_is = once found.0 number place (in_places found.0 place found.4) there in (
          found.1,
          found.2,
          subst (λ (k : ℕ). slice_get rows k ≡ Some found.1) number_is found.3,
          found.5,
          found.6,
        )

    -- what is reached by numbers is reached in the table, and back
    pub reaches : (number last : ℕ) (place : Place) → slice_get places number ≡ Some place
        → ReachesBy rows variable number last
        → (end : Place) × (slice_get places last ≡ Some end) × Reaches table variable place end
    reaches _ last place there (itself number) = (place, there, plain.itself place)
    reaches _ last place there (further number next end (row, at_row, (code, among, leads)) rest) =
        let found = step_there number row code at_row among in
        let led = leads_of_code variable code next found.1 leads found.4 in
        let on = reaches next end led.1 led.4 rest in
        let here = same_Some found.0 place (sym found.2 ∙ there) in (
          on.0,
          on.1,
          plain.further place led.1 on.0 led.0
              (subst (λ (p : Place). HasStep table p (Leads led.0 led.1)) here
              (subst (HasStep table found.0) led.2 found.3)) led.3 on.2,
        )

    pub reached_by : (number : ℕ) (place end : Place) → slice_get places number ≡ Some place
        → Reaches table variable place end
        → (last : ℕ) × (slice_get places last ≡ Some end) × ReachesBy rows variable number last
    reached_by number _ end there (plain.itself place) = (number, there, itself number)
    reached_by number _ end there (plain.further place next last but has kept rest) =
        let found = code_there number place (Leads but next) there has in
        let led = code_leads variable found.1 but next found.4 kept in
        let on = reached_by led.0 next last led.2 rest in (
          on.0,
          on.1,
          further number led.0 on.0
              (found.0, found.2, (found.1, found.3, led.1)) on.2,
        )
