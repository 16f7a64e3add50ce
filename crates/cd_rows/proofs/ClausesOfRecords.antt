-- The records of a question are those in the rows of its clauses of records.
use Rattle.std.proofs.Common.{◌≡◌, ℕ, Bool, true, false, List, [], ◌∷◌, Option, ◌⊎◌, inl, inr, refl}
use Rattle.std.proofs.Common.{ap, sym, subst}
use Rattle.std.proofs.lemmas.Bool.{true≢false}
use Rattle.std.proofs.Math.Path.{transport}
use Rattle.cd_sets.specs.declared.question.Question.{Question}
use Rattle.cd_syntax.specs.Name.{Name}
use Rattle.cd_model.specs.AllOf.{AllOf, AnyOf}
use Rattle.cd_model.specs.Formula as formula
use Rattle.cd_model.specs.Formula.{Graph, Field}
use Rattle.cd_model.specs.Kinds.{Kind, ARecord}
use Rattle.cd_model.specs.Membership.{Answers, Mapping, Reader}
use Rattle.cd_model.specs.Thing as thing
use Rattle.cd_model.specs.Thing.{Thing}
use Rattle.cd_rules.specs.Clauses.{Clause, RecordType, Ints, Chars, Atoms, Pairs, Xmls, Records}
use Rattle.cd_rules.specs.Clauses.{Arrows, IsClauseOfQuestion, IsInClause}
use Rattle.cd_rules.specs.InRow.{thing_at, IsInRow}
use Rattle.cd_rules.specs.Rows.{Row, field_at}
use Rattle.cd_rules.proofs.ClausesExact.{thing_exact}
use Rattle.cd_rules.proofs.InCells.{Says}
use Rattle.cd_model.proofs.Ones.{each_weaker, each_for_all, one_on_left, one_on_right, one_on_a_side}
use Rattle.cd_rules.proofs.RowsOfThings.{thing_says}
use Rattle.cd_rules.proofs.Things.{answers_of, reader_of}
use Rattle.cd_products.specs.QuestionBoxes.{InQuestion}
use Rattle.cd_products.specs.Inner.ClauseBoxes.{AreClauses}
use Rattle.cd_rows.specs.Inner.PlainClauses.{row_clause, row_clause_of, row_clauses}
use Rattle.cd_rows.specs.Inner.Refining.{needed, first_row, rows_of_clause, rows_of_clauses}
use Rattle.cd_rows.proofs.FirstRows.{first_labels, name_no_more, into_first, out_of_first, labels}
use Rattle.cd_rows.proofs.LessRows.{IsOutside}
use Rattle.cd_rows.proofs.RefinedRows.{clause_only, clause_cover}
use Rattle.cd_products.proofs.AmongClauses.{among_clauses}

abbrev is_record : Kind → Bool
is_record ARecord = true
is_record _ = false

-- whatever closures map
module _ (graph : Graph) (closed : ℕ → Mapping) (fields : thing.Fields) where
  abbrev answers : Thing → Answers
  answers = answers_of graph closed

  abbrev at : Name → Option Thing
  at = thing_at fields

  abbrev at_record : Reader
  at_record = reader_of graph closed (thing.Record fields)

  abbrev InRow : Row → Type 0
  InRow = IsInRow answers at

  abbrev IsAs : Bool → Name → RecordType → Type 0
  IsAs answer label type = Says answers (at label) (field_at type label) answer

  abbrev IsOf : Bool → RecordType → Type 0
  IsOf answer type = at_record (formula.Record type.named type.rest) answer

  -- at each label the record is as a type says where it is in the type
  inside_says : (type : RecordType) → IsOf true type → (label : Name) → IsAs true label type
  inside_says type is label =
      transport (thing_says graph closed fields label (field_at type label) true) (is label)

  says_inside : (type : RecordType) → ((label : Name) → IsAs true label type) → IsOf true type
  says_inside type each label = transport
      (sym (thing_says graph closed fields label (field_at type label) true)) (each label)

  -- and at one label it is not where it is outside the type
  outside_says : (type : RecordType) → IsOf false type → IsOutside answers at type
  outside_says type (label, is) =
      (label, transport (thing_says graph closed fields label (field_at type label) false) is)

  says_outside : (type : RecordType) → IsOutside answers at type → IsOf false type
  says_outside type (label, is) = (
    label,
    transport (sym (thing_says graph closed fields label (field_at type label) false)) is,
  )

  -- a record is in a clause exactly when it is in the clause's row and outside its refused types
  in_row : (wanted refused : List RecordType)
      → IsInClause ARecord at_record (Records wanted refused)
      → InRow (first_row wanted refused) × AllOf (IsOutside answers at) refused
  in_row wanted refused within = (
    into_first wanted refused answers at
        (λ label. each_weaker (IsOf true) (IsAs true label)
        (λ type is. inside_says type is label) wanted within.1),
    each_weaker (IsOf false) (IsOutside answers at) outside_says refused within.2,
  )

  in_clause : (wanted refused : List RecordType) → InRow (first_row wanted refused)
      → AllOf (IsOutside answers at) refused
      → IsInClause ARecord at_record (Records wanted refused)
  in_clause wanted refused inside outside = (
    refl,
    each_weaker (λ type. (label : Name) → IsAs true label type) (IsOf true) says_inside wanted
        (each_for_all (IsAs true) wanted (out_of_first wanted refused answers at inside)),
    each_weaker (IsOutside answers at) (IsOf false) says_outside refused outside,
  )

  abbrev IsIn : Clause → Type 0
  IsIn = IsInClause ARecord at_record

  -- a record is in no clause of another kind
  of_other : (clause : Clause) → row_clause_of clause ≡ [] → IsIn clause → ⊥
  of_other (Records wanted refused) none within = absurd cc
  of_other (Ints _ _) none within = true≢false (ap is_record within.0)
  of_other (Chars _ _) none within = true≢false (ap is_record within.0)
  of_other (Atoms _ _) none within = true≢false (ap is_record within.0)
  of_other (Pairs _ _) none within = true≢false (ap is_record within.0)
  of_other (Xmls _ _) none within = true≢false (ap is_record within.0)
  of_other (Arrows _ _) none within = true≢false (ap is_record within.0)

  module _ (test : List Question → Bool) where
    abbrev rows_of : List Clause → List Row
    rows_of all = rows_of_clauses test (row_clauses all)

    -- what is in a row of some clauses is in one of them
    clause_among : (all : List Clause) (fact : Clause → Type 0) → AllOf fact all
        → AnyOf InRow (rows_of all)
        → (clause : Clause) × fact clause × IsInClause ARecord at_record clause
    clause_among [] fact each one = absurd one
    clause_among (Records wanted refused ∷ all) fact each one =
        by_side (one_on_a_side InRow (rows_of_clause test (row_clause wanted refused)) (rows_of all)
        one) (clause_among all fact each.1)
      where
        by_side : AnyOf InRow (rows_of_clause test (row_clause wanted refused))
            ⊎ AnyOf InRow (rows_of all)
            → (AnyOf InRow (rows_of all)
            → (clause : Clause) × fact clause × IsInClause ARecord at_record clause)
            → (clause : Clause) × fact clause × IsInClause ARecord at_record clause
        by_side (inl here) later =
            let back = clause_only test answers at (labels wanted refused)
            (row_clause wanted refused) (first_labels wanted refused)
            (name_no_more wanted refused) here in
            (Records wanted refused, each.0, in_clause wanted refused back.0 back.1)
        by_side (inr there) later = later there
    clause_among (Ints _ _ ∷ all) fact each one = clause_among all fact each.1 one
    clause_among (Chars _ _ ∷ all) fact each one = clause_among all fact each.1 one
    clause_among (Atoms _ _ ∷ all) fact each one = clause_among all fact each.1 one
    clause_among (Pairs _ _ ∷ all) fact each one = clause_among all fact each.1 one
    clause_among (Xmls _ _ ∷ all) fact each one = clause_among all fact each.1 one
    clause_among (Arrows _ _ ∷ all) fact each one = clause_among all fact each.1 one

    -- and what is in one of them is in one of their rows
    module _ (decided : (label : Name) (field : Field) → Says answers (at label) field true
        ⊎ Says answers (at label) field false)
        (drops : (row : Row) → test (needed row) ≡ false → InRow row → ⊥) where
      rows_cover : (clause : Clause) (all : List Clause) → AnyOf (λ other. other ≡ clause) all
          → IsInClause ARecord at_record clause → AnyOf InRow (rows_of all)
      rows_cover clause [] among within = absurd among
      rows_cover clause (Records wanted refused ∷ all) (inl same) within =
          let inside = in_row wanted refused
          (subst (IsInClause ARecord at_record) (sym same) within) in
          one_on_left InRow (rows_of_clause test (row_clause wanted refused)) (rows_of all)
          (clause_cover test answers at (labels wanted refused) decided drops
          (row_clause wanted refused) (first_labels wanted refused)
          (name_no_more wanted refused) inside.0 inside.1)
      rows_cover clause (Records wanted refused ∷ all) (inr later) within =
          one_on_right InRow (rows_of_clause test (row_clause wanted refused)) (rows_of all)
          (rows_cover clause all later within)
      rows_cover clause (Ints a b ∷ all) (inl same) within =
          absurd (of_other (Ints a b) refl (subst IsIn (sym same) within))
      rows_cover clause (Ints _ _ ∷ all) (inr later) within = rows_cover clause all later within
      rows_cover clause (Chars a b ∷ all) (inl same) within =
          absurd (of_other (Chars a b) refl (subst IsIn (sym same) within))
      rows_cover clause (Chars _ _ ∷ all) (inr later) within = rows_cover clause all later within
      rows_cover clause (Atoms a b ∷ all) (inl same) within =
          absurd (of_other (Atoms a b) refl (subst IsIn (sym same) within))
      rows_cover clause (Atoms _ _ ∷ all) (inr later) within = rows_cover clause all later within
      rows_cover clause (Pairs a b ∷ all) (inl same) within =
          absurd (of_other (Pairs a b) refl (subst IsIn (sym same) within))
      rows_cover clause (Pairs _ _ ∷ all) (inr later) within = rows_cover clause all later within
      rows_cover clause (Xmls a b ∷ all) (inl same) within =
          absurd (of_other (Xmls a b) refl (subst IsIn (sym same) within))
      rows_cover clause (Xmls _ _ ∷ all) (inr later) within = rows_cover clause all later within
      rows_cover clause (Arrows a b ∷ all) (inl same) within =
          absurd (of_other (Arrows a b) refl (subst IsIn (sym same) within))
      rows_cover clause (Arrows _ _ ∷ all) (inr later) within = rows_cover clause all later within

module _ (graph : Graph) (closed : ℕ → Mapping) (question : Question) (all : List Clause)
    (are : AreClauses graph question all) (test : List Question → Bool) (fields : thing.Fields)
  where
    abbrev Asked : Type 0
    Asked = InQuestion (answers_of graph closed) (thing.Record fields) question

    abbrev InRows : Type 0
    InRows = AnyOf (IsInRow (answers_of graph closed) (thing_at fields))
        (rows_of_clauses test (row_clauses all))

    -- A record in a row of the question's clauses is in the question
    pub rows_only : InRows → Asked
    rows_only one =
        let is = clause_among graph closed fields test all (IsClauseOfQuestion graph question) are.0
        one in
        (thing_exact graph closed question (thing.Record fields)).1 (is.0, is.1, is.2)

    -- and one in the question is in such a row
    pub rows_hold : ((label : Name) (field : Field)
        → Says (answers_of graph closed) (thing_at fields label) field true
        ⊎ Says (answers_of graph closed) (thing_at fields label) field false)
        → ((row : Row) → test (needed row) ≡ false
        → IsInRow (answers_of graph closed) (thing_at fields) row → ⊥)
        → Asked → InRows
    rows_hold decided drops asking =
        by_clause ((thing_exact graph closed question (thing.Record fields)).0 asking)
      where
        by_clause : ((clause : Clause) × IsClauseOfQuestion graph question clause
            × IsInClause ARecord (reader_of graph closed (thing.Record fields)) clause) → InRows
        by_clause (clause, of, within) = rows_cover graph closed fields test decided drops clause
            all (among_clauses ARecord refl (reader_of graph closed (thing.Record fields)) graph
            question all are clause of within) within
