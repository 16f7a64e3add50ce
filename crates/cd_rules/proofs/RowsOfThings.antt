-- A record is in a clause of records exactly when it is in one of the clause's rows.
use Rattle.std.proofs.Common.{◌≡◌, ℕ, Bool, true, false, List, Option, Some, bytes_eq, if◌then◌else◌, ◌↔◌, refl, sym, subst}
use Rattle.cd_syntax.specs.Name.{Name}
use Rattle.cd_model.specs.Thing as thing
use Rattle.cd_model.specs.AllOf.{AnyOf}
use Rattle.cd_model.specs.Formula.{Graph, Field}
use Rattle.cd_model.specs.Kinds.{ARecord}
use Rattle.cd_model.specs.Membership.{Answers, Labelled, Mapping, either, record_reader}
use Rattle.cd_rules.specs.Clauses.{RecordType, Records, IsInClause}
use Rattle.cd_rules.specs.Rows.{rows_of}
use Rattle.cd_rules.specs.InRow.{thing_at, IsInRow}
use Rattle.cd_rules.proofs.InCells.{Says}
use Rattle.cd_rules.proofs.RowsExact.{labelled_by, rows_exact}
use Rattle.cd_rules.proofs.Things.{reader_of, answers_of, labelled_of}

-- a field is right as its value is, or as the other fields are
field_says : {X : Type 0} (answers : X → Answers) (test : Bool) (is : X) (other : Option X) (Others : Type 0)
    (field : Field) (answer : Bool) → Others ≡ Says answers other field answer
    → either test (answers is field.type answer) Others ≡ Says answers (if test then Some is else other) field answer
field_says answers true is other Others field answer same = refl
field_says answers false is other Others field answer same = same

module _ {X : Type 0} (answers : X → Answers) (at : Name → Option X) (wanted refused : List RecordType) where
  -- that a record is in the clause of these types exactly when it is in a row
  abbrev IsExact : Labelled → Type 0
  IsExact said = IsInClause ARecord (record_reader said) (Records wanted refused)
      ↔ AnyOf (IsInRow answers at) (rows_of wanted refused)

  -- it is so of a record that answers of each label what the value that it has there does
  exact_of : (said : Labelled)
      → ((label : Name) (field : Field) (answer : Bool)
      → said label field answer ≡ labelled_by answers at label field answer)
      → IsExact said
  exact_of said same = subst IsExact (sym (λ i label field answer. same label field answer i)) (
    λ is. (rows_exact answers at wanted refused).0 (is.1, is.2),
    λ row. let both = (rows_exact answers at wanted refused).1 row in (refl, both.0, both.1),
  )

module _ (graph : Graph) (closed : ℕ → Mapping) where
  -- a record answers of each label what the thing that it has there does
  pub thing_says : (fields : thing.Fields) (label : Name) (field : Field) (answer : Bool)
      → labelled_of graph closed fields label field answer
      ≡ labelled_by (answers_of graph closed) (thing_at fields) label field answer
  thing_says thing.NoField label field answer = refl
  thing_says (thing.Field name is rest) label field answer = field_says (answers_of graph closed) (bytes_eq name label) is
      (thing_at rest label) (labelled_of graph closed rest label field answer) field answer
      (thing_says rest label field answer)

  pub record_exact : (wanted refused : List RecordType) (fields : thing.Fields)
      → IsInClause ARecord (reader_of graph closed (thing.Record fields)) (Records wanted refused)
      ↔ AnyOf (IsInRow (answers_of graph closed) (thing_at fields)) (rows_of wanted refused)
  record_exact wanted refused fields = exact_of (answers_of graph closed) (thing_at fields) wanted refused
      (labelled_of graph closed fields) (thing_says fields)
