-- Rows of records as rows of cells, one for each field that has to be present.
use Rattle.std.proofs.Common.{◌≡◌, inl, inr, Bool, true, false, List, [], ◌∷◌, map, Option, Some}
use Rattle.std.proofs.Common.{None, refl, sym, subst, ◌∙◌, ap, bytes_eq, true≢false, if◌then◌else◌}
use Rattle.std.specs.Cmp.Lexicographic.{bytes_decides}
use Rattle.cd_sets.specs.declared.node_id.NodeId.{NodeId}
use Rattle.cd_sets.specs.declared.question.Question.{Question}
use Rattle.cd_syntax.specs.Name.{Name, IsLabel}
use Rattle.cd_model.specs.AllOf.{AllOf, AnyOf}
use Rattle.cd_model.specs.Formula.{asked, AreRisingLabels}
use Rattle.cd_model.specs.Thing.{Thing, Fields, NoField, Field, Record}
use Rattle.cd_model.specs.Types.{Answers}
use Rattle.cd_matching.specs.Kernel.{KernelField, Present, Optional}
use Rattle.cd_matching.specs.Take.{at_label}
use Rattle.cd_rules.specs.InRow.{thing_at, IsInCell}
use Rattle.cd_rules.specs.Rows.{Cell, Row}
use Rattle.cd_model.proofs.Ones.{one_of_map, one_weaker}
use Rattle.cd_rows.specs.RecordRows.{cell_in, asked_at, InRecordRow, RowHasWitnesses, CoverRecords}
use Rattle.cd_rows.specs.RecordRows.{AreRecordRows}
use Rattle.cd_filter.specs.Rows.{ArePresent, InRow, Picks, CoverRows, AreRows}
use Rattle.cd_explored.specs.Inner.FieldRows.{asked_fields}

same_label : (fields : Fields) (label : Name) → at_label fields label ≡ thing_at fields label
same_label NoField label = refl
same_label (Field name d rest) label =
    ap (λ (o : Option Thing). if bytes_eq name label then Some d else o) (same_label rest label)

module _ (answers : Thing → Answers NodeId) where
  -- what is at a label is in what the row asks there
  in_cell : (at : Name → Option Thing) (label : Name) (d : Thing) (every : Question)
      (cells : List (Name × Cell)) → at label ≡ Some d
      → AllOf (λ cell. IsInCell answers (at cell.0) cell.1) cells
      → ((AnyOf (λ cell. cell.0 ≡ label) cells → ⊥) → asked (answers d) every true)
      → asked (answers d) (cell_in cells every label).value true
  in_cell at label d every [] there inside elsewhere = elsewhere (λ none. absurd none)
  in_cell at label d every (cell ∷ cells) there inside elsewhere =
      by_test (bytes_eq cell.0 label) refl (in_cell at label d every cells there inside.1)
    where
      by_test : (b : Bool) → bytes_eq cell.0 label ≡ b
          → (((AnyOf (λ cell. cell.0 ≡ label) cells → ⊥) → asked (answers d) every true)
          → asked (answers d) (cell_in cells every label).value true)
          → asked (answers d) (if b then cell.1 else cell_in cells every label).value true
      by_test true same later = subst (λ (o : Option Thing). IsInCell answers o cell.1)
          (ap at ((bytes_decides cell.0 label).0 same) ∙ there) inside.0
      by_test false differs later = later (λ none. elsewhere (λ one. elim one [
        | inl same ↦ true≢false (sym ((bytes_decides cell.0 label).1 same) ∙ differs)
        | inr among ↦ none among
      ]))

  in_row : (fields : Fields) (label : Name) (d : Thing) (row : Row)
      → at_label fields label ≡ Some d → InRecordRow answers fields row
      → asked (answers d) (asked_at row label) true
  in_row fields label d row is inside =
      let there = sym (same_label fields label) ∙ is in
      in_cell (thing_at fields) label d row.every row.cells there inside.0
      (λ none. subst
      (λ (o : Option Thing). IsInCell answers o (record { absent = true; value = row.every }))
      there (inside.1 label none))

  in_fields : (fields : Fields) (named : List (Name × KernelField NodeId)) (row : Row)
      → InRecordRow answers fields row → ArePresent fields named
      → InRow answers fields named (asked_fields named row)
  in_fields fields [] row inside present = tt
  in_fields fields ((label, Present number) ∷ named) row inside present = (
    (present.0.0, present.0.1, in_row fields label present.0.0 row present.0.1 inside),
    in_fields fields named row inside present.1,
  )
  in_fields fields ((label, Optional type) ∷ named) row inside present =
      in_fields fields named row inside present

  module _ (Sort : Thing → Type 0) (question : Question) where
    pub cover_fields : (named : List (Name × KernelField NodeId)) (rows : List Row)
        → CoverRecords answers Sort question rows
        → CoverRows answers Sort question named (map (asked_fields named) rows)
    cover_fields named rows cover fields sort inside present =
        one_of_map (asked_fields named) (InRow answers fields named) rows
        (one_weaker (InRecordRow answers fields)
        (λ row. InRow answers fields named (asked_fields named row))
        (λ row in_it. in_fields fields named row in_it present) rows (cover fields sort inside))

    -- a row whose questions have witnesses has a record with any thing at a label that it asks for there
    abbrev pub PickRecords : Type 0
    PickRecords = (row : Row) (label : Name) (d : Thing) → RowHasWitnesses answers Sort row
        → IsLabel label → Sort d → asked (answers d) (asked_at row label) true
        → (fields : Fields) × Sort (Record fields) × InRecordRow answers fields row
        × (thing_at fields label ≡ Some d)

    module _ (pick : PickRecords) where
      -- the records of the row are of the question
      abbrev AreOfQuestion : Row → Type 0
      AreOfQuestion row = (fields : Fields) → Sort (Record fields)
          → InRecordRow answers fields row → asked (answers (Record fields)) question true

      picks_of : (named : List (Name × KernelField NodeId)) (before : Option Name) (row : Row)
          → AreRisingLabels before named → RowHasWitnesses answers Sort row → AreOfQuestion row
          → Picks answers Sort question named (asked_fields named row)
      picks_of [] before row rising witnesses only = tt
      picks_of ((label, Present number) ∷ named) before row rising witnesses only = (
        λ d sort inside. let it = pick row label d witnesses rising.0 sort inside in
            (it.0, it.1, only it.0 it.1 it.2, same_label it.0 label ∙ it.3),
        picks_of named (Some label) row rising.2 witnesses only,
      )
      picks_of ((label, Optional type) ∷ named) before row rising witnesses only =
          picks_of named (Some label) row rising.2 witnesses only

      all_pick : (named : List (Name × KernelField NodeId)) (rows : List Row)
          → AreRisingLabels None named → AllOf (RowHasWitnesses answers Sort) rows
          → ((fields : Fields) → Sort (Record fields) → AnyOf (InRecordRow answers fields) rows
          → asked (answers (Record fields)) question true)
          → AllOf (Picks answers Sort question named) (map (asked_fields named) rows)
      all_pick named [] rising witnesses only = tt
      all_pick named (row ∷ rows) rising witnesses only = (
        picks_of named None row rising witnesses.0
            (λ fields sort inside. only fields sort (inl inside)),
        all_pick named rows rising witnesses.1 (λ fields sort inside. only fields sort (inr inside)),
      )

      pub fields_are_rows : (named : List (Name × KernelField NodeId)) (rows : List Row)
          → AreRisingLabels None named → AreRecordRows answers Sort question rows
          → AreRows answers Sort question named (map (asked_fields named) rows)
      fields_are_rows named rows rising are = record {
        covers = cover_fields named rows are.covers;
        picks = all_pick named rows rising are.witnesses are.only;
      }
