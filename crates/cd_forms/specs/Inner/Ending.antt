-- The states from which steps lead to the end of a sequence, and how they are marked.
use Rattle.std.specs.Prelude.{◌≡◌, ◌≤◌, ◌<◌, ◌&&◌, ℕ, suc, Bool, true, false, not, List, [], ◌∷◌}
use Rattle.std.specs.Prelude.{length, Some}
use Rattle.std.specs.List.{slice_get, slice_set, list_any}
use Rattle.cd_forms.specs.declared.of_sequences.step.Step.{Step}
use Rattle.cd_forms.specs.Inner.ItemQuestions.{is_marked}
use Rattle.cd_forms.specs.Inner.Numbered.{IsAmong}
use Rattle.cd_forms.specs.Inner.States.{State}

pub data Ends (states : List State) : ℕ → Type 0 where
  ends_here : (number : ℕ) (state : State) → slice_get states number ≡ Some state
      → state.ends ≡ true → Ends states number
  goes_on : (number : ℕ) (state : State) (step : Step) → slice_get states number ≡ Some state
      → IsAmong state.steps step → Ends states step.rest → Ends states number

-- each marked one is such a state
abbrev pub AreSoundMarks : List State → List Bool → Type 0
AreSoundMarks states marks = (number : ℕ) → slice_get marks number ≡ Some true
    → Ends states number

-- and each such state is marked
abbrev pub AreMarked : List State → List Bool → Type 0
AreMarked states marks = AreSoundMarks states marks
    × ((number : ℕ) → Ends states number → slice_get marks number ≡ Some true)

-- a state is not marked and has a step to a marked one
abbrev pub one_leads : List Bool → List Step → Bool
one_leads marks steps = list_any (λ step. is_marked marks step.rest) steps

abbrev pub leads_on : List Bool → ℕ → State → Bool
leads_on marks number state = not (is_marked marks number) && one_leads marks state.steps

-- marks with one more
abbrev pub mark_if : Bool → List Bool → ℕ → List Bool
mark_if true marks number = slice_set marks number true
mark_if false marks number = marks

-- no state from a number on is such a one
abbrev pub NoneLeads : List State → (from : ℕ) → List Bool → Type 0
NoneLeads states from marks = (number : ℕ) (state : State) → from ≤ number
    → slice_get states number ≡ Some state → leads_on marks number state ≡ false

-- how many are not marked
abbrev pub unmarked : List Bool → ℕ
unmarked [] = 0
unmarked (true ∷ marks) = unmarked marks
unmarked (false ∷ marks) = suc (unmarked marks)

-- where one more was marked fewer are left, and else none from a number on leads to a marked one
abbrev pub HasPassed : List State → (from : ℕ) → (old new : List Bool) → (more : Bool) → Type 0
HasPassed states from old new true = unmarked new < unmarked old
HasPassed states from old new false = (new ≡ old) × NoneLeads states from new

-- marks after a pass over the states from a number on
pub record IsPass (states : List State) (from : ℕ) (old new : List Bool) (more : Bool) : Type 0
  where
    pub count : length new ≡ length old
    pub sound : AreSoundMarks states old → AreSoundMarks states new
    pub kept : (number : ℕ) → slice_get old number ≡ Some true → slice_get new number ≡ Some true
    pub passed : HasPassed states from old new more

-- what is so between passes
abbrev pub NoneLeft : List State → List Bool → (more : Bool) → Type 0
NoneLeft states marks true = Unit {0}
NoneLeft states marks false = NoneLeads states 0 marks

pub record ArePassed (states : List State) (marks : List Bool) (more : Bool) : Type 0 where
  pub count : length marks ≡ length states
  pub sound : AreSoundMarks states marks
  pub ends : (number : ℕ) (state : State) → slice_get states number ≡ Some state
      → state.ends ≡ true → slice_get marks number ≡ Some true
  pub left : NoneLeft states marks more

-- what gets less with each pass
abbrev pub passes_left : List Bool → (more : Bool) → ℕ
passes_left marks true = suc (unmarked marks)
passes_left marks false = unmarked marks
