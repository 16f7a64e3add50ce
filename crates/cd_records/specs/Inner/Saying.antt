-- What rows say of labels, as lists of questions, each of them once.
use Rattle.std.specs.Prelude.{Bool, true, ◌&&◌, List, [], ◌∷◌, ◌++◌, map, if◌then◌else◌}
use Rattle.std.specs.List.{list_any}
use Rattle.cd_sets.specs.Asking.{same_question}
use Rattle.cd_sets.specs.declared.question.Question.{Question}
use Rattle.cd_syntax.specs.Name.{Name}
use Rattle.cd_rules.specs.Rows.{Row}
use Rattle.cd_rows.specs.RecordRows.{asked_at, may_lack}
use Rattle.cd_records.specs.Inner.Entries.{Entry}

-- one question more, and several more, if they are not there yet
abbrev pub with_question : Question → List Question → List Question
with_question question known =
    if list_any (same_question question) known then known else known ++ (question ∷ [])

abbrev pub with_questions : (new known : List Question) → List Question
with_questions [] known = known
with_questions (question ∷ new) known = with_questions new (with_question question known)

-- what rows ask at a label, and at a label of no cell
abbrev pub asked_by : List Row → Name → List Question
asked_by rows label = map (λ row. asked_at row label) rows

abbrev pub every_of : List Row → List Question
every_of rows = map (λ row. row.every) rows

-- whether nothing may stand at a label, by one of the rows
abbrev pub one_may_lack : List Row → Name → Bool
one_may_lack rows label = list_any (λ row. may_lack row label) rows

-- what is at a label of merged records: what the second has, or else what the first has
abbrev pub merged_entry : (first second : List Row) → Name → Entry
merged_entry first second label = record {
  optional = one_may_lack second label && one_may_lack first label;
  questions = with_questions (if one_may_lack second label then asked_by first label else [])
      (with_questions (asked_by second label) []);
}

abbrev pub merged_every : (first second : List Row) → List Question
merged_every first second =
    with_questions (every_of first) (with_questions (every_of second) [])

abbrev pub merged_entries : (first second : List Row) → List Name → List (Name × Entry)
merged_entries first second labels = map (λ label. (label, merged_entry first second label)) labels
