-- The rows that are made of the clauses of a question with a right test are its record rows.
use Rattle.std.proofs.Common.{◌≡◌, Bool, true, List, [], ◌∷◌, ◌++◌, length, sym, ap, subst, ◌∙◌}
use Rattle.std.proofs.Common.{append_assoc}
use Rattle.cd_sets.specs.declared.question.Question.{Question}
use Rattle.cd_syntax.specs.Name.{Name}
use Rattle.cd_model.specs.AllOf.{AllOf}
use Rattle.cd_model.specs.BuiltIns.{built_ins}
use Rattle.cd_model.specs.Formula.{Graph, IsGraph, in_node}
use Rattle.cd_model.specs.Interfaces.{value_in_node}
use Rattle.cd_model.specs.Membership.{Answers, closure_mapping}
use Rattle.cd_model.specs.Thing.{Thing, IsElement, IsValue}
use Rattle.cd_model.specs.Types.{no_closure}
use Rattle.cd_model.proofs.Sorts as sort
use Rattle.cd_model.proofs.Ones.{each_of_lists}
use Rattle.cd_rules.specs.Clauses.{Clause, RecordType, Records, Ints, Chars, Atoms, Pairs, Xmls}
use Rattle.cd_rules.specs.Clauses.{Arrows, IsClauseOfQuestion}
use Rattle.cd_rules.specs.Family.{AsksNodes}
use Rattle.cd_rules.specs.InRow.{thing_at}
use Rattle.cd_rules.specs.Members.{HaveLabels}
use Rattle.cd_rules.specs.Rows.{Row, labels_of}
use Rattle.cd_rules.proofs.PartsAsk.{clause_names_labels}
use Rattle.cd_products.specs.Inner.ClauseBoxes.{AreClauses}
use Rattle.cd_products.specs.Inner.Tests.{IsTest}
use Rattle.cd_products.specs.QuestionBoxes.{KeepsInhabited}
use Rattle.cd_products.proofs.Decided.{elements_decided}
use Rattle.cd_products.proofs.LongerGraphs.{clauses_kept, test_of_longer}
use Rattle.cd_products.proofs.MadeProducts.{drops, keeps, drops_values, values_decided}
use Rattle.cd_products.proofs.Tests.{right_test}
use Rattle.cd_rows.specs.RecordRows.{RowHasWitnesses, CoverRecords, AreRecordRows}
use Rattle.cd_rows.specs.RecordRows.{CoverRecordValues, RowAsksNodes}
use Rattle.cd_rows.specs.Inner.PlainClauses.{row_clause, row_clauses}
use Rattle.cd_rows.specs.Inner.Refining.{needed, less_row, rows_of_clause}
use Rattle.cd_rows.specs.Inner.Refining.{rows_of_clauses}
use Rattle.cd_rows.proofs.ClausesOfRecords.{rows_only, rows_hold}
use Rattle.cd_rows.proofs.FirstRows.{first_labels}
use Rattle.cd_rows.proofs.RowsWithWitnesses.{SomeInEvery, less_some_in_every, row_has_witnesses, none_dropped}
use Rattle.cd_rows.proofs.RowsWithWitnesses.{field_decided, at_labels}
use Rattle.cd_rows.proofs.OwnLabels.{have_own, have_labels}
use Rattle.cd_rows.proofs.RefinedRows.{HasThese, less_these, clause_has, clause_passes}
use Rattle.cd_rows.proofs.RowsOfGraphs.{clauses_ask, row_clauses_ask}

-- a longer graph begins with the built-in nodes too
abbrev begins_longer : (graph more : Graph) → ((rest : Graph) × (graph ≡ built_ins ++ rest))
    → (rest : Graph) × (graph ++ more ≡ built_ins ++ rest)
begins_longer graph more begins = (
  begins.0 ++ more,
  ap (λ nodes. nodes ++ more) begins.1 ∙ append_assoc built_ins begins.0 more,
)

-- The rows of a clause that a test keeps live
module _ (answers : Thing → Answers) (Sort : Thing → Type 0) (test : List Question → Bool)
    (keeps : KeepsInhabited answers Sort test) where
  -- the labels of a row, and that things of `some` are in `every`
  record IsMade (labels : List Name) (row : Row) : Type 0 where
    same : HasThese labels row
    within : SomeInEvery answers Sort row

  less_made : (labels : List Name) (type : RecordType) (row : Row) → IsMade labels row
      → AllOf (IsMade labels) (less_row type row)
  less_made labels type row made = both (less_row type row)
      (less_these labels type row made.same)
      (less_some_in_every answers Sort type row made.within)
    where
      both : (rows : List Row) → AllOf (HasThese labels) rows
          → AllOf (SomeInEvery answers Sort) rows → AllOf (IsMade labels) rows
      both [] each others = tt
      both (row ∷ rows) each others =
          (record { same = each.0; within = others.0 }, both rows each.1 others.1)

  module _ (wanted refused : List RecordType) (these : HaveLabels wanted)
      (those : HaveLabels refused) where
    abbrev labels : List Name
    labels = labels_of (wanted ++ refused)

    live : (rows : List Row) → AllOf (λ row. test (needed row) ≡ true) rows
        → AllOf (IsMade labels) rows → AllOf (RowHasWitnesses answers Sort) rows
    live [] each made = tt
    live (row ∷ rows) each made =
        let has = row_has_witnesses answers Sort row (keeps (needed row) each.0) in (
          record {
            cells = has.0;
            some = has.1;
            within = made.0.within;
            labels = have_labels wanted refused row made.0.same these those;
            once = have_own wanted refused row made.0.same;
          },
          live rows each.1 made.1,
        )

    clause_lives : AllOf (RowHasWitnesses answers Sort)
        (rows_of_clause test (row_clause wanted refused))
    clause_lives = live (rows_of_clause test (row_clause wanted refused))
        (clause_passes test (row_clause wanted refused))
        (clause_has test (IsMade labels) (λ type. Unit {0})
        (λ type is row made. less_made labels type row made) (row_clause wanted refused)
        (all_types refused)
        (record { same = first_labels wanted refused; within = tt }))
      where
        all_types : (types : List RecordType) → AllOf (λ type. Unit {0}) types
        all_types [] = tt
        all_types (type ∷ types) = (tt, all_types types)

  module _ (graph : Graph) (sound : IsGraph graph) (question : Question) where
    rows_live : (all : List Clause) → AllOf (IsClauseOfQuestion graph question) all
        → AllOf (RowHasWitnesses answers Sort) (rows_of_clauses test (row_clauses all))
    rows_live [] each = tt
    rows_live (Records wanted refused ∷ all) each =
        let names = clause_names_labels graph sound question (Records wanted refused) each.0 in
        each_of_lists (RowHasWitnesses answers Sort) (rows_of_clause test (row_clause wanted refused))
        (rows_of_clauses test (row_clauses all)) (clause_lives wanted refused names.0 names.1)
        (rows_live all each.1)
    rows_live (Ints _ _ ∷ all) each = rows_live all each.1
    rows_live (Chars _ _ ∷ all) each = rows_live all each.1
    rows_live (Atoms _ _ ∷ all) each = rows_live all each.1
    rows_live (Pairs _ _ ∷ all) each = rows_live all each.1
    rows_live (Xmls _ _ ∷ all) each = rows_live all each.1
    rows_live (Arrows _ _ ∷ all) each = rows_live all each.1

module _ (graph : Graph) (begins : (more : Graph) × (graph ≡ built_ins ++ more))
    (sound : IsGraph graph) (question : Question) (asks : AsksNodes (length graph) question)
    (all : List Clause) (are : AreClauses graph question all) (rows : List Row)
    (made : (test : List Question → Bool) → IsTest graph test
    → rows ≡ rows_of_clauses test (row_clauses all)) where
  pub are_rows : AreRecordRows (in_node graph) IsElement question rows
  are_rows =
      let found = right_test graph begins.0 begins.1 sound in
      let test = found.0 in
      subst (AreRecordRows (in_node graph) IsElement question)
      (sym (made test (λ box asks. found.1 box)))
      (record {
        covers = λ fields is. rows_hold graph no_closure question all are test fields
            (λ label. field_decided (in_node graph) IsElement (elements_decided graph)
            (thing_at fields label) (at_labels sort.elements fields is.1 label))
            (none_dropped (in_node graph) IsElement (thing_at fields)
            (at_labels sort.elements fields is.1) test (drops graph test found.1));
        only = λ fields is one. rows_only graph no_closure question all are test fields one;
        witnesses = rows_live (in_node graph) IsElement test (keeps graph test found.1) graph sound
            question all are.0;
      })

  pub cover_values : CoverRecordValues graph question rows
  cover_values more interfaces sound_too of =
      let longer = graph ++ more in
      let begins_too = begins_longer graph more begins in
      let found = right_test longer begins_too.0 begins_too.1 sound_too in
      let test = found.0 in
      let answers = value_in_node longer interfaces in
      subst (CoverRecords answers IsValue question)
      (sym (made test (test_of_longer graph more sound test found.1)))
      (λ fields is. rows_hold longer (closure_mapping longer interfaces) question all
      (clauses_kept graph more question asks all are) test fields
      (λ label. field_decided answers IsValue
      (values_decided longer begins_too sound_too interfaces of)
      (thing_at fields label) (at_labels sort.values fields is.1 label))
      (none_dropped answers IsValue (thing_at fields)
      (at_labels sort.values fields is.1) test
      (drops_values longer test found.1 begins_too sound_too interfaces)))

  pub ask_nodes : AllOf (RowAsksNodes (length graph)) rows
  ask_nodes =
      let found = right_test graph begins.0 begins.1 sound in
      subst (AllOf (RowAsksNodes (length graph))) (sym (made found.0 (λ box asks. found.1 box)))
      (clauses_ask (length graph) found.0 (row_clauses all)
      (row_clauses_ask graph sound question all are.0))
