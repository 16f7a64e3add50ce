-- The rows of a clause of records are exact: they hold the records that are in the clause's row and
-- outside each of its refused types.
use Rattle.std.proofs.Common.{◌≡◌, Bool, true, false, List, [], ◌∷◌, Option}
use Rattle.std.proofs.Common.{◌⊎◌, inl, inr, refl, sym, ◌∙◌, subst, map}
use Rattle.cd_sets.specs.declared.question.Question.{Question}
use Rattle.cd_syntax.specs.Name.{Name}
use Rattle.cd_model.specs.AllOf.{AllOf, AnyOf}
use Rattle.cd_model.specs.Formula.{Field}
use Rattle.cd_model.specs.Membership.{Answers}
use Rattle.cd_model.specs.Thing.{Thing}
use Rattle.cd_rules.specs.Clauses.{RecordType}
use Rattle.cd_rules.specs.InRow.{IsInRow, IsOfNoCell}
use Rattle.cd_rules.specs.Rows.{Row, field_at}
use Rattle.cd_rules.proofs.InCells.{Says}
use Rattle.cd_rules.proofs.LabelsNamed.{free_field}
use Rattle.cd_model.proofs.Ones.{each_weaker, one_on_left, one_on_right, one_on_a_side, each_of_lists}
use Rattle.cd_rules.proofs.Asking.{each_of_map}
use Rattle.cd_rows.specs.Inner.Refining as refining
use Rattle.cd_rows.specs.Inner.Refining.{RowClause, needed, less_row, less_cells, with_cells}
use Rattle.cd_rows.specs.Inner.Refining.{outside_rest}
use Rattle.cd_rows.proofs.LessRows.{labels_in, within_labels, less_labels}
use Rattle.cd_rows.proofs.LessRows.{IsOutside, less_only, less_cover}

-- a row has cells of these labels
abbrev pub HasThese : List Name → Row → Type 0
HasThese labels row = labels_in row.cells ≡ labels

-- a type says no more of a label that is none of these than of any that it does not name
abbrev pub NamesNoMore : List Name → RecordType → Type 0
NamesNoMore labels type = (label : Name) → (AnyOf (λ name. name ≡ label) labels → ⊥)
    → field_at type label ≡ free_field type

-- the rows of a row less a type have its labels
pub less_these : (labels : List Name) (type : RecordType) (row : Row) → HasThese labels row
    → AllOf (HasThese labels) (less_row type row)
less_these labels type row same = each_of_lists (HasThese labels)
    (map (with_cells row) (less_cells type row.cells)) (outside_rest type row ∷ [])
    (each_of_map (with_cells row) (HasThese labels) (less_cells type row.cells)
    (each_weaker (λ cells. labels_in cells ≡ labels_in row.cells)
    (λ cells. labels_in cells ≡ labels) (λ cells is. is ∙ same) (less_cells type row.cells)
    (less_labels type row.cells)))
    (within_labels type row.cells ∙ same, tt)

module _ (test : List Question → Bool) where
  abbrev keep_if : Bool → Row → List Row → List Row
  keep_if = refining.keep_if test

  abbrev keep : List Row → List Row
  keep = refining.keep test

  abbrev refuse : RecordType → List Row → List Row
  refuse = refining.refuse test

  abbrev refuse_all : List RecordType → List Row → List Row
  refuse_all = refining.refuse_all test

  abbrev rows_of : RowClause → List Row
  rows_of = refining.rows_of_clause test

  -- each row that is kept passes the test
  abbrev Passes : Row → Type 0
  Passes row = test (needed row) ≡ true

  keep_passes : (rows : List Row) → AllOf Passes (keep rows)
  keep_passes [] = tt
  keep_passes (row ∷ rows) = by_test (test (needed row)) refl (keep_passes rows)
    where
      by_test : (b : Bool) → test (needed row) ≡ b → AllOf Passes (keep rows)
          → AllOf Passes (keep_if b row (keep rows))
      by_test true is further = (is, further)
      by_test false is further = further

  refuse_passes : (type : RecordType) (rows : List Row) → AllOf Passes (refuse type rows)
  refuse_passes type [] = tt
  refuse_passes type (row ∷ rows) = each_of_lists Passes (keep (less_row type row))
      (refuse type rows) (keep_passes (less_row type row)) (refuse_passes type rows)

  all_pass : (refused : List RecordType) (rows : List Row) → AllOf Passes rows
      → AllOf Passes (refuse_all refused rows)
  all_pass [] rows each = each
  all_pass (type ∷ refused) rows each =
      all_pass refused (refuse type rows) (refuse_passes type rows)

  pub clause_passes : (clause : RowClause) → AllOf Passes (rows_of clause)
  clause_passes clause =
      all_pass clause.refused (keep (clause.row ∷ [])) (keep_passes (clause.row ∷ []))

  -- A fact that the rows of a row less a type have with it
  module _ (Fact : Row → Type 0) where
    pub keep_has : (rows : List Row) → AllOf Fact rows → AllOf Fact (keep rows)
    keep_has [] each = tt
    keep_has (row ∷ rows) each = by_test (test (needed row)) (keep_has rows each.1)
      where
        by_test : (b : Bool) → AllOf Fact (keep rows) → AllOf Fact (keep_if b row (keep rows))
        by_test true further = (each.0, further)
        by_test false further = further

    module _ (IsSuch : RecordType → Type 0) (less_has : (type : RecordType) → IsSuch type
        → (row : Row) → Fact row → AllOf Fact (less_row type row)) where
      pub refuse_has : (type : RecordType) → IsSuch type → (rows : List Row) → AllOf Fact rows
          → AllOf Fact (refuse type rows)
      refuse_has type is [] each = tt
      refuse_has type is (row ∷ rows) each =
          each_of_lists Fact (keep (less_row type row)) (refuse type rows)
          (keep_has (less_row type row) (less_has type is row each.0))
          (refuse_has type is rows each.1)

      pub all_have : (refused : List RecordType) → AllOf IsSuch refused → (rows : List Row)
          → AllOf Fact rows → AllOf Fact (refuse_all refused rows)
      all_have [] are rows each = each
      all_have (type ∷ refused) are rows each =
          all_have refused are.1 (refuse type rows) (refuse_has type are.0 rows each)

      pub clause_has : (clause : RowClause) → AllOf IsSuch clause.refused → Fact clause.row
          → AllOf Fact (rows_of clause)
      clause_has clause are is = all_have clause.refused are (keep (clause.row ∷ []))
          (keep_has (clause.row ∷ []) (is, tt))

  module _ (answers : Thing → Answers) (at : Name → Option Thing) where
    abbrev InRow : Row → Type 0
    InRow = IsInRow answers at

    abbrev Out : RecordType → Type 0
    Out = IsOutside answers at

    keep_only : (rows : List Row) → AnyOf InRow (keep rows) → AnyOf InRow rows
    keep_only [] one = one
    keep_only (row ∷ rows) one =
        by_test (test (needed row)) (λ later. inr (keep_only rows later)) one
      where
        by_test : (b : Bool) → (AnyOf InRow (keep rows) → AnyOf InRow (row ∷ rows))
            → AnyOf InRow (keep_if b row (keep rows)) → AnyOf InRow (row ∷ rows)
        by_test true further (inl here) = inl here
        by_test true further (inr later) = further later
        by_test false further later = further later

    module _ (labels : List Name) where
      -- what a type says of a label of no cell of a row of these labels
      free_at : (type : RecordType) → NamesNoMore labels type → (row : Row)
          → HasThese labels row → (label : Name) → IsOfNoCell row label
          → field_at type label ≡ free_field type
      free_at type free row same label none = free label
          (λ one. none (from_these row.cells
          (subst (AnyOf (λ name. name ≡ label)) (sym same) one)))
        where
          from_these : (cells : List _) → AnyOf (λ name. name ≡ label) (labels_in cells)
              → AnyOf (λ cell. cell.0 ≡ label) cells
          from_these [] one = one
          from_these (cell ∷ cells) (inl same) = inl same
          from_these (cell ∷ cells) (inr later) = inr (from_these cells later)

      refuse_only : (type : RecordType) → NamesNoMore labels type → (rows : List Row)
          → AllOf (HasThese labels) rows → AnyOf InRow (refuse type rows)
          → AnyOf InRow rows × Out type
      refuse_only type free [] each one = absurd one
      refuse_only type free (row ∷ rows) each one =
          elim (one_on_a_side InRow (keep (less_row type row)) (refuse type rows) one) [
            | inl here ↦
                let found = less_only answers at type row (free_at type free row each.0)
                (keep_only (less_row type row) here) in
                (inl found.0, found.1)
            | inr later ↦
                let found = refuse_only type free rows each.1 later in (inr found.0, found.1)
          ]

      all_only : (refused : List RecordType) → AllOf (NamesNoMore labels) refused
          → (rows : List Row) → AllOf (HasThese labels) rows
          → AnyOf InRow (refuse_all refused rows) → AnyOf InRow rows × AllOf Out refused
      all_only [] free rows each one = (one, tt)
      all_only (type ∷ refused) free rows each one =
          let further = all_only refused free.1 (refuse type rows)
          (refuse_has (HasThese labels) (λ type. Unit {0})
          (λ type is row same. less_these labels type row same) type tt rows each) one in
          let here = refuse_only type free.0 rows each further.0 in
          (here.0, (here.1, further.1))

      -- A record in a row of a clause is in the clause's row and outside its types
      pub clause_only : (clause : RowClause) → HasThese labels clause.row
          → AllOf (NamesNoMore labels) clause.refused → AnyOf InRow (rows_of clause)
          → InRow clause.row × AllOf Out clause.refused
      clause_only clause same free one =
          let found = all_only clause.refused free (keep (clause.row ∷ []))
          (keep_has (HasThese labels) (clause.row ∷ []) (same, tt)) one in
          elim (keep_only (clause.row ∷ []) found.0) [
            | inl inside ↦ (inside, found.1)
            | inr none ↦ absurd none
          ]

      -- and one that is so is in a row
      module _ (decided : (label : Name) (field : Field) → Says answers (at label) field true
          ⊎ Says answers (at label) field false)
          (drops : (row : Row) → test (needed row) ≡ false → InRow row → ⊥) where
        keep_covers : (rows : List Row) → AnyOf InRow rows → AnyOf InRow (keep rows)
        keep_covers [] one = one
        keep_covers (row ∷ rows) (inl here) = by_test (test (needed row)) refl
          where
            by_test : (b : Bool) → test (needed row) ≡ b
                → AnyOf InRow (keep_if b row (keep rows))
            by_test true is = inl here
            by_test false is = absurd (drops row is here)
        keep_covers (row ∷ rows) (inr later) =
            by_test (test (needed row)) (keep_covers rows later)
          where
            by_test : (b : Bool) → AnyOf InRow (keep rows)
                → AnyOf InRow (keep_if b row (keep rows))
            by_test true further = inr further
            by_test false further = further

        refuse_covers : (type : RecordType) → NamesNoMore labels type → (rows : List Row)
            → AllOf (HasThese labels) rows → AnyOf InRow rows → Out type
            → AnyOf InRow (refuse type rows)
        refuse_covers type free [] each one out = absurd one
        refuse_covers type free (row ∷ rows) each (inl here) out =
            one_on_left InRow (keep (less_row type row)) (refuse type rows)
            (keep_covers (less_row type row)
            (less_cover answers at type row (free_at type free row each.0)
            (λ label. decided label (field_at type label)) here out))
        refuse_covers type free (row ∷ rows) each (inr later) out =
            one_on_right InRow (keep (less_row type row)) (refuse type rows)
            (refuse_covers type free rows each.1 later out)

        all_cover : (refused : List RecordType) → AllOf (NamesNoMore labels) refused
            → (rows : List Row) → AllOf (HasThese labels) rows → AnyOf InRow rows
            → AllOf Out refused → AnyOf InRow (refuse_all refused rows)
        all_cover [] free rows each one out = one
        all_cover (type ∷ refused) free rows each one out =
            all_cover refused free.1 (refuse type rows)
            (refuse_has (HasThese labels) (λ type. Unit {0})
            (λ type is row same. less_these labels type row same) type tt rows each)
            (refuse_covers type free.0 rows each one out.0) out.1

        pub clause_cover : (clause : RowClause) → HasThese labels clause.row
            → AllOf (NamesNoMore labels) clause.refused → InRow clause.row
            → AllOf Out clause.refused → AnyOf InRow (rows_of clause)
        clause_cover clause same free inside out =
            all_cover clause.refused free (keep (clause.row ∷ []))
            (keep_has (HasThese labels) (clause.row ∷ []) (same, tt))
            (keep_covers (clause.row ∷ []) (inl inside)) out
