-- What it is for a record to be in a row. A record is what it has at each label, and what the value
-- there answers.
use Rattle.std.specs.Prelude.{◌≡◌, ◌⊎◌, true, false, Option, Some, None, bytes_eq, if◌then◌else◌}
use Rattle.cd_sets.specs.declared.question.Question.{Question}
use Rattle.cd_syntax.specs.Name.{Name}
use Rattle.cd_model.specs.Thing as thing
use Rattle.cd_model.specs.Thing.{Thing}
use Rattle.cd_model.specs.AllOf.{AllOf, AnyOf}
use Rattle.cd_model.specs.Membership.{Answers, asked}
use Rattle.cd_rules.specs.Rows.{Cell, Row}

-- what a record has at a label
abbrev pub thing_at : thing.Fields → Name → Option Thing
thing_at thing.NoField label = None
thing_at (thing.Field name is rest) label =
    if bytes_eq name label then Some is else thing_at rest label

-- what is at a label is in a cell: nothing, if that may be, or a value that is in the cell's
-- question
abbrev pub IsInCell : {X : Type 0} → (X → Answers) → Option X → Cell → Type 0
IsInCell answers None cell = cell.absent ≡ true
IsInCell answers (Some is) cell = asked (answers is) cell.value true

-- a label of no cell of the row
abbrev pub IsOfNoCell : Row → Name → Type 0
IsOfNoCell row label = AnyOf (λ cell. cell.0 ≡ label) row.cells → ⊥

-- a record has a value of the question at a label of no cell
abbrev pub HasElsewhere : {X : Type 0} → (X → Answers) → (at : Name → Option X) → Row → Question
    → Type 0
HasElsewhere answers at row question =
    (label : Name) × IsOfNoCell row label
    × IsInCell answers (at label) (record { absent = false; value = question })

-- A record is in a row where at each cell's label it is in the cell; where at each other label it
-- has nothing or a value of `every`; and where it has, for each question of `some`, a value of it
-- at a label of no cell
abbrev pub IsInRow : {X : Type 0} → (X → Answers) → (at : Name → Option X) → Row → Type 0
IsInRow answers at row = AllOf (λ cell. IsInCell answers (at cell.0) cell.1) row.cells
    × ((label : Name) → IsOfNoCell row label
    → IsInCell answers (at label) (record { absent = true; value = row.every }))
    × AllOf (HasElsewhere answers at row) row.some

-- a record that is made for a row is in each cell, and has at each other label nothing or a value
-- of a question of `some`
abbrev pub IsForRow : {X : Type 0} → (X → Answers) → (at : Name → Option X) → Row → Type 0
IsForRow answers at row = AllOf (λ cell. IsInCell answers (at cell.0) cell.1) row.cells
    × ((label : Name) → IsOfNoCell row label
    → (at label ≡ None)
    ⊎ AnyOf (λ question. IsInCell answers (at label) (record { absent = false; value = question }))
    row.some)
    × AllOf (HasElsewhere answers at row) row.some
