-- The questions of a row have witnesses where each that it needs has a thing, and a record in a row
-- shows that each of these has one.
use Rattle.std.proofs.Common.{◌≡◌, Bool, true, false, true≢false, if◌then◌else◌, List, [], ◌∷◌}
use Rattle.std.proofs.Common.{◌++◌, Option, Some, None, ◌⊎◌, inl, inr, refl, sym, ◌∙◌}
use Rattle.std.proofs.Common.{bytes_eq, map}
use Rattle.cd_sets.specs.declared.question.Question.{Question}
use Rattle.cd_syntax.specs.Name.{Name}
use Rattle.cd_model.specs.AllOf.{AllOf}
use Rattle.cd_model.specs.Formula.{Field}
use Rattle.cd_model.specs.Membership.{Answers}
use Rattle.cd_model.specs.Thing as thing
use Rattle.cd_model.specs.Thing.{Thing}
use Rattle.cd_model.proofs.Sorts as sort
use Rattle.cd_rules.specs.Clauses.{RecordType}
use Rattle.cd_rules.specs.InRow.{thing_at, IsInCell, HasElsewhere, IsInRow}
use Rattle.cd_rules.specs.Rows.{Cell, Row}
use Rattle.cd_rules.specs.Tasks.{present}
use Rattle.cd_rules.proofs.InCells.{Says}
use Rattle.cd_model.proofs.Ones.{each_of_all, each_of_lists}
use Rattle.cd_rules.proofs.Asking.{each_of_map}
use Rattle.cd_products.specs.QuestionBoxes.{InQuestion, InQuestions, AreDecided, IsInhabited}
use Rattle.cd_products.specs.QuestionBoxes.{DropsEmpty}
use Rattle.cd_rows.specs.Inner.Refining.{needed, less_row, less_cells, with_cells, outside_rest}
use Rattle.cd_rows.proofs.Narrowing.{in_without}

all_split : {A : Type 0} (P : A → Type 0) (xs ys : List A) → AllOf P (xs ++ ys)
    → AllOf P xs × AllOf P ys
all_split P [] ys each = (tt, each)
all_split P (x ∷ xs) ys each =
    let rest = all_split P xs ys each.1 in ((each.0, rest.0), rest.1)

-- what is at a label, if it is anything, is of a sort
abbrev pub IsOfSort : (Thing → Type 0) → Option Thing → Type 0
IsOfSort Sort None = Unit {0}
IsOfSort Sort (Some d) = Sort d

-- what a record has at each label is of its sort
pub at_labels : (of : sort.Sort) (fields : thing.Fields) → of.OfFields fields → (label : Name)
    → IsOfSort of.Of (thing_at fields label)
at_labels of thing.NoField are label = tt
at_labels of (thing.Field name is rest) are label =
    let parts = of.field name is rest are in
    by_name (bytes_eq name label) parts.0 (at_labels of rest parts.1 label)
  where
    by_name : (same : Bool) → of.Of is → IsOfSort of.Of (thing_at rest label)
        → IsOfSort of.Of (if same then Some is else thing_at rest label)
    by_name true here later = here
    by_name false here later = later

module _ (answers : Thing → Answers) (Sort : Thing → Type 0) where
  abbrev Has : Question → Type 0
  Has = IsInhabited answers Sort

  -- the cells that may not be absent have things
  abbrev HasOne : Name × Cell → Type 0
  HasOne cell = (cell.1.absent ≡ true) ⊎ Has cell.1.value

  cells_have_witnesses : (cells : List (Name × Cell)) → AllOf Has (present cells) → AllOf HasOne cells
  cells_have_witnesses [] each = tt
  cells_have_witnesses (cell ∷ cells) each = by_test cell.1.absent refl (cells_have_witnesses cells) each
    where
      by_test : (b : Bool) → cell.1.absent ≡ b
          → (AllOf Has (present cells) → AllOf HasOne cells)
          → AllOf Has (if b then present cells else cell.1.value ∷ present cells)
          → AllOf HasOne (cell ∷ cells)
      by_test true is further each = (inl is, further each)
      by_test false is further each = (inr each.0, further each.1)

  pub row_has_witnesses : (row : Row) → AllOf Has (needed row)
      → AllOf HasOne row.cells × AllOf Has row.some
  row_has_witnesses row each = let both = all_split Has (present row.cells) row.some each in
      (cells_have_witnesses row.cells both.0, both.1)

  -- a thing of a question of `some` is in `every`
  abbrev pub SomeInEvery : Row → Type 0
  SomeInEvery row = AllOf
      (λ question. (d : Thing) → Sort d → InQuestion answers d question
      → InQuestion answers d row.every) row.some

  pub less_some_in_every : (type : RecordType) (row : Row) → SomeInEvery row
      → AllOf SomeInEvery (less_row type row)
  less_some_in_every type row each = each_of_lists SomeInEvery
      (map (with_cells row) (less_cells type row.cells)) (outside_rest type row ∷ [])
      (each_of_map (with_cells row) SomeInEvery (less_cells type row.cells)
      (each_of_all (λ cells. SomeInEvery (with_cells row cells)) (λ cells. each)
      (less_cells type row.cells))) (
        (λ d sort is. ((in_without answers d type.rest row.every).0 is).0, each),
        tt,
      )

  -- what a record has is decided at each field
  pub field_decided : AreDecided answers Sort → (what : Option Thing) → IsOfSort Sort what
      → (field : Field) → Says answers what field true ⊎ Says answers what field false
  field_decided decided None is field = by_test field.optional
    where
      by_test : (b : Bool) → (b ≡ true) ⊎ (b ≡ false)
      by_test true = inl refl
      by_test false = inr refl
  field_decided decided (Some d) is field = decided d field.type is

  -- things for each question of a box
  things_for : (box : List Question) → AllOf Has box
      → (things : List Thing) × AllOf Sort things × InQuestions answers things box
  things_for [] each = ([], tt, tt)
  things_for (question ∷ box) each =
      let rest = things_for box each.1 in
      let first = each.0 in
      (first.0 ∷ rest.0, (first.1, rest.1), (first.2, rest.2))

  module _ (at : Name → Option Thing) (sorted : (label : Name) → IsOfSort Sort (at label)) where
    -- what is there in a cell that may not be absent
    has_value : (what : Option Thing) → IsOfSort Sort what → (cell : Cell)
        → cell.absent ≡ false → IsInCell answers what cell → Has cell.value
    has_value None is cell absent inside = absurd (true≢false (sym inside ∙ absent))
    has_value (Some d) is cell absent inside = (d, is, inside)

    cells_have : (cells : List (Name × Cell))
        → AllOf (λ cell. IsInCell answers (at cell.0) cell.1) cells → AllOf Has (present cells)
    cells_have [] each = tt
    cells_have (cell ∷ cells) each = by_test cell.1.absent refl (cells_have cells each.1)
      where
        by_test : (b : Bool) → cell.1.absent ≡ b → AllOf Has (present cells)
            → AllOf Has (if b then present cells else cell.1.value ∷ present cells)
        by_test true is further = further
        by_test false is further =
            (has_value (at cell.0) (sorted cell.0) cell.1 is each.0, further)

    some_have : (row : Row) (some : List Question) → AllOf (HasElsewhere answers at row) some
        → AllOf Has some
    some_have row [] each = tt
    some_have row (question ∷ some) each = (
      has_value (at each.0.0) (sorted each.0.0) (record { absent = false; value = question })
          refl each.0.2,
      some_have row some each.1,
    )

    -- no record of the sort is in a row that a test drops
    pub none_dropped : (test : List Question → Bool) → DropsEmpty answers Sort test
        → (row : Row) → test (needed row) ≡ false → IsInRow answers at row → ⊥
    none_dropped test drops row dropped inside =
        let each = each_of_lists Has (present row.cells) row.some
        (cells_have row.cells inside.0) (some_have row row.some inside.2) in
        let found = things_for (needed row) each in
        drops (needed row) found.0 dropped found.1 found.2
