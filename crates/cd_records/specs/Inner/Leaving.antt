-- What is left of a row where a label goes. Its other questions need values at labels of no cell,
-- so where the label has no cell, the value that goes may be one that some of them had.
use Rattle.std.specs.Prelude.{◌≡◌, ◌⊎◌, ℕ, true, List, [], ◌∷◌, ◌++◌, map, bytes_eq, if◌then◌else◌}
use Rattle.cd_sets.specs.declared.question.Question.{Question}
use Rattle.cd_syntax.specs.Name.{Name}
use Rattle.cd_model.specs.AllOf.{AllOf, AnyOf}
use Rattle.cd_model.specs.Formula.{Graph}
use Rattle.cd_rules.specs.Family.{AsksNodes}
use Rattle.cd_rules.specs.InRow.{IsOfNoCell}
use Rattle.cd_rules.specs.Members.{HasElement}
use Rattle.cd_rules.specs.Needs.{question}
use Rattle.cd_rules.specs.Rows.{Row}
use Rattle.cd_rows.specs.RecordRows.{asked_at, may_lack}
use Rattle.cd_records.specs.Inner.Entries.{Entry}
use Rattle.cd_records.specs.Inner.Labels.{inserted, row_labels}
use Rattle.cd_records.specs.Inner.Saying.{with_questions}

-- what is in both questions
abbrev pub both_questions : Question → Question → Question
both_questions one other = question (one.pos ++ other.pos) (one.neg ++ other.neg)

-- What is at the label is in `taken`, if it is anything, and the questions of `left` have values at
-- other labels
pub record Choice : Type 0 where
  pub taken : Question
  pub left : List Question

-- it asks nodes among so many
abbrev pub ChoiceAsks : (nodes : ℕ) → Choice → Type 0
ChoiceAsks nodes choice = AsksNodes nodes choice.taken × AllOf (AsksNodes nodes) choice.left

abbrev pub take : Question → Choice → Choice
take question choice =
    record { taken = both_questions choice.taken question; left = choice.left }

abbrev pub leave : Question → Choice → Choice
leave question choice =
    record { taken = choice.taken; left = choice.left ++ (question ∷ []) }

-- the other questions of a row, each once
abbrev pub some_of : Row → List Question
some_of row = with_questions row.some []

abbrev pub first_choice : Row → Choice
first_choice row = record { taken = row.every; left = [] }

module _ (graph : Graph) where
  -- what a choice becomes by one more question, and what choices become by one, and by several
  abbrev pub IsStep : Question → Choice → List Choice → Type 0
  IsStep question choice all =
      (HasElement graph (take question choice).taken
      × (all ≡ take question choice ∷ (leave question choice ∷ [])))
      ⊎ ((HasElement graph (take question choice).taken → ⊥)
      × (all ≡ leave question choice ∷ []))

  abbrev pub AreSteps : Question → (choices all : List Choice) → Type 0
  AreSteps question [] all = all ≡ []
  AreSteps question (choice ∷ choices) all = (first rest : List Choice)
      × IsStep question choice first × AreSteps question choices rest × (all ≡ first ++ rest)

  abbrev pub AreChoices : List Question → (choices all : List Choice) → Type 0
  AreChoices [] choices all = all ≡ choices
  AreChoices (question ∷ some) choices all = (next : List Choice)
      × AreSteps question choices next × AreChoices some next all

  -- a choice comes after others if something may stand at the label, and what a choice becomes does
  abbrev pub IsAddedIf : Choice → (old new : List Choice) → Type 0
  IsAddedIf choice old new = (HasElement graph choice.taken × (new ≡ old ++ choice ∷ []))
      ⊎ ((HasElement graph choice.taken → ⊥) × (new ≡ old))

  abbrev pub AddsStep : Question → Choice → (old new : List Choice) → Type 0
  AddsStep question choice old new =
      (first : List Choice) × IsStep question choice first × (new ≡ old ++ first)

  -- the lists of questions that may be left
  abbrev pub AreLefts : Row → Name → List (List Question) → Type 0
  AreLefts row label lefts =
      (AnyOf (λ cell. cell.0 ≡ label) row.cells × (lefts ≡ some_of row ∷ []))
      ⊎ (IsOfNoCell row label × ((choices : List Choice)
      × AreChoices (some_of row) (first_choice row ∷ []) choices
      × (lefts ≡ map (λ choice. choice.left) choices)))

-- nothing at the label, and at another one what the row says
abbrev pub rest_entry : Row → (label name : Name) → Entry
rest_entry row label name =
    if bytes_eq label name then record { optional = true; questions = [] }
    else record { optional = may_lack row name; questions = asked_at row name ∷ [] }

abbrev pub rest_labels : Row → Name → List Name
rest_labels row label = inserted label (row_labels (row ∷ []) [])

abbrev pub entries_at : Row → Name → List Name → List (Name × Entry)
entries_at row label names = map (λ name. (name, rest_entry row label name)) names

abbrev pub rest_entries : Row → Name → List (Name × Entry)
rest_entries row label = entries_at row label (rest_labels row label)
