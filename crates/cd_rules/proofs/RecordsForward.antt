-- A record that is in each wanted type and outside each refused one lives in one of the rows of these.
use Rattle.std.proofs.Common.{◌≡◌, Bool, true, false, true≢false, List, Option, Some, None, ◌⊎◌, inl, inr, refl, sym, subst}
use Rattle.cd_sets.specs.declared.question.Question.{Question}
use Rattle.cd_syntax.specs.Name.{Name}
use Rattle.cd_model.specs.AllOf.{AllOf, AnyOf}
use Rattle.cd_model.specs.Formula as formula
use Rattle.cd_model.specs.Formula.{Field, field_of}
use Rattle.cd_model.specs.Membership.{Answers, Labelled, asked, record_reader}
use Rattle.cd_rules.specs.Clauses.{RecordType}
use Rattle.cd_rules.specs.Members.{HasWitnesses}
use Rattle.cd_rules.specs.Rows.{Cell, Row, rows_of}
use Rattle.cd_rules.specs.InRow.{IsInCell, HasElsewhere, IsInRow}
use Rattle.cd_rules.proofs.InCells.{Says}
use Rattle.cd_model.proofs.Ones.{each_weaker, one_weaker}
use Rattle.cd_rules.proofs.RowsExact.{labelled_by, rows_exact}
use Rattle.cd_rules.proofs.Things.{IsAskedFact}

-- What a record has at a label: nothing, so that fields which may be absent are right; or a value, so that a field is right
-- where its node is, and what the value is asked has the fact
pub data HasAt (labelled : Labelled) (Fact : Question → Type 0) (label : Name) : Type 1 where
  HasNothing : ((field : Field) (answer : Bool) → labelled label field answer → field.optional ≡ answer)
      → HasAt labelled Fact label
  HasValue : (answers : Answers)
      → ((field : Field) (answer : Bool) → labelled label field answer → answers field.type answer)
      → IsAskedFact Fact answers → HasAt labelled Fact label

module _ (labelled : Labelled) (Fact : Question → Type 0) (has : (label : Name) → HasAt labelled Fact label) where
  -- a label where there is something stands for what is there
  abbrev at_label : (label : Name) → HasAt labelled Fact label → Option Name
  at_label label (HasNothing free) = None
  at_label label (HasValue answers right asking) = Some label

  abbrev answers_of : (label : Name) → HasAt labelled Fact label → Answers
  answers_of label (HasNothing free) = λ id answer. Unit {0}
  answers_of label (HasValue answers right asking) = answers

  abbrev at : Name → Option Name
  at label = at_label label (has label)

  abbrev answers_at : Name → Answers
  answers_at label = answers_of label (has label)

  -- a field that the record is right at is so where the record is given by its labels
  says_so : (label : Name) (field : Field) (answer : Bool) (there : HasAt labelled Fact label) → there ≡ has label
      → labelled label field answer → Says answers_at (at_label label there) field answer
  says_so label field answer (HasNothing free) same is = free field answer is
  says_so label field answer (HasValue answers right asking) same is =
      subst (λ there. answers_of label there field.type answer) same (right field answer is)

  -- a cell that the record is in may be absent or has the fact
  cell_lives : (label : Name) (cell : Cell) (there : HasAt labelled Fact label) → there ≡ has label
      → IsInCell answers_at (at_label label there) cell → (cell.absent ≡ true) ⊎ Fact cell.value
  cell_lives label cell (HasNothing free) same is = inl is
  cell_lives label cell (HasValue answers right asking) same is =
      inr (asking cell.value (subst (λ there. asked (answers_of label there) cell.value true) (sym same) is))

  -- a row that the record is in lives
  row_has_witnesses : (row : Row) → IsInRow answers_at at row → HasWitnesses Fact row
  row_has_witnesses row is = (
    each_weaker (λ cell. IsInCell answers_at (at cell.0) cell.1) (λ cell. (cell.1.absent ≡ true) ⊎ Fact cell.1.value)
        (λ cell here. cell_lives cell.0 cell.1 (has cell.0) refl here) row.cells is.0,
    each_weaker (HasElsewhere answers_at at row) Fact
        (λ question there. question_lives question (cell_lives there.0 (record { absent = false; value = question })
        (has there.0) refl there.2)) row.some is.2,
  )
    where
      question_lives : (question : Question) → (false ≡ true) ⊎ Fact question → Fact question
      question_lives question (inl is) = absurd (true≢false (sym is))
      question_lives question (inr is) = is

-- a record that is in each wanted type and outside each refused one lives in one of their rows
pub records_forward : (labelled : Labelled) (Fact : Question → Type 0) → ((label : Name) → HasAt labelled Fact label)
    → (wanted refused : List RecordType)
    → AllOf (λ type. record_reader labelled (formula.Record type.named type.rest) true) wanted
    → AllOf (λ type. record_reader labelled (formula.Record type.named type.rest) false) refused
    → AnyOf (HasWitnesses Fact) (rows_of wanted refused)
records_forward labelled Fact has wanted refused inside outside =
    one_weaker (IsInRow given at_labels) (HasWitnesses Fact) (row_has_witnesses labelled Fact has) (rows_of wanted refused)
    ((rows_exact given at_labels wanted refused).0 (
      each_weaker (λ type. record_reader labelled (formula.Record type.named type.rest) true)
          (λ type. record_reader (labelled_by given at_labels) (formula.Record type.named type.rest) true)
          (λ type is label. so label (field_of type.named type.rest label) true (is label)) wanted inside,
      each_weaker (λ type. record_reader labelled (formula.Record type.named type.rest) false)
          (λ type. record_reader (labelled_by given at_labels) (formula.Record type.named type.rest) false)
          (λ type is. (is.0, so is.0 (field_of type.named type.rest is.0) false is.1)) refused outside,
    ))
  where
    given : Name → Answers
    given = answers_at labelled Fact has

    at_labels : Name → Option Name
    at_labels = at labelled Fact has

    so : (label : Name) (field : Field) (answer : Bool) → labelled label field answer
        → Says given (at_labels label) field answer
    so label field answer is = says_so labelled Fact has label field answer (has label) refl is
