-- What the code has of labels and questions as plain data.
use Rattle.std.specs.Prelude.{List, map}
use Rattle.std.specs.Borrow.{Bor}
use Rattle.cd_sets.specs.declared.question.Question.{Question}
use Rattle.cd_syntax.specs.Name.{Name}
use Rattle.cd_needs.specs.RecordTypes.{plain_row}
use Rattle.cd_records.specs.declared.choice.Choice.{Choice as CodeChoice}
use Rattle.cd_records.specs.declared.rest.Rest.{Rest as CodeRest}
use Rattle.cd_records.specs.declared.said.Said.{Said}
use Rattle.cd_records.specs.Inner.Entries.{Entry}
use Rattle.cd_records.specs.Inner.Leaving.{Choice}
use Rattle.cd_records.specs.Inner.Rests.{Rest}

abbrev pub plain_questions : List (Bor Question) → List Question
plain_questions questions = map (λ question. question.now) questions

abbrev pub plain_said : Said → Name × Entry
plain_said said = (
  said.label.now,
  record {
    optional = said.optional;
    questions = plain_questions said.questions.items;
  },
)

abbrev pub plain_choice : CodeChoice → Choice
plain_choice choice =
    record { taken = choice.taken; left = plain_questions choice.left.items }

abbrev pub plain_rest : CodeRest → Rest
plain_rest rest = (plain_row rest.row.now, plain_questions rest.left.items)
