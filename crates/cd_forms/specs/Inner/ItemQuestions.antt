-- What is asked of items: the first questions of steps that lead to marked states.
use Rattle.std.specs.Prelude.{◌++◌, ℕ, Bool, false, List, [], ◌∷◌, if◌then◌else◌}
use Rattle.std.specs.List.{slice_get}
use Rattle.std.specs.Option.{unwrap_or}
use Rattle.cd_sets.specs.declared.question.Question.{Question}
use Rattle.cd_rules.specs.Family.{SameMembers}
use Rattle.cd_forms.specs.declared.of_sequences.step.Step.{Step}
use Rattle.cd_forms.specs.Inner.States.{State}

abbrev pub is_marked : List Bool → ℕ → Bool
is_marked marks number = unwrap_or (slice_get marks number) false

module _ (marks : List Bool) where
  abbrev pub items_of_steps : List Step → List Question
  items_of_steps [] = []
  items_of_steps (step ∷ steps) =
      if is_marked marks step.rest then step.item ∷ items_of_steps steps else items_of_steps steps

  abbrev pub items_of_states : List State → List Question
  items_of_states [] = []
  items_of_states (state ∷ states) = items_of_steps state.steps ++ items_of_states states

  -- these questions, each once
  abbrev pub AreItems : List State → List Question → Type 0
  AreItems states questions = SameMembers questions (items_of_states states)
