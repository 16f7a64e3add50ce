-- The rows that are made of the clauses of a question of a graph ask nodes of it.
use Rattle.std.proofs.Common.{ℕ, ◌<◌, List, [], ◌∷◌, ◌++◌, map, length, bytes_eq, Bool, true, false}
use Rattle.std.proofs.Common.{if◌then◌else◌}
use Rattle.cd_sets.specs.declared.node_id.NodeId.{NodeId}
use Rattle.cd_sets.specs.declared.question.Question.{Question}
use Rattle.cd_syntax.specs.Name.{Name}
use Rattle.cd_model.specs.AllOf.{AllOf}
use Rattle.cd_model.specs.Formula.{Graph, IsGraph, Field, field_of}
use Rattle.cd_rules.specs.Clauses.{Clause, RecordType, Records}
use Rattle.cd_rules.specs.Clauses.{IsClauseOfQuestion}
use Rattle.cd_rules.specs.Family.{AsksNodes}
use Rattle.cd_rules.specs.Rows.{Cell, Row, field_at, labels_of}
use Rattle.cd_rules.specs.Tasks.{present}
use Rattle.cd_rules.specs.Within.{IsWithin, IsTypeWithin}
use Rattle.cd_rules.proofs.Asking.{each_of_map, each_of_set}
use Rattle.cd_model.proofs.Ones.{each_weaker, each_of_lists}
use Rattle.cd_rules.proofs.PartsAsk.{clause_is_within, row_asks}
use Rattle.cd_products.proofs.OneMore.{each_with}
use Rattle.cd_rows.specs.RecordRows.{RowAsksNodes}
use Rattle.cd_rows.specs.Inner.PlainClauses.{row_clause_of, row_clauses}
use Rattle.cd_rows.specs.Inner.Refining.{RowClause, ClauseAsks, within_type, without_type}
use Rattle.cd_rows.specs.Inner.Refining.{less_cells, with_cells}
use Rattle.cd_rows.specs.Inner.Refining.{outside_rest, less_row, needed, first_row, keep, refuse}
use Rattle.cd_rows.specs.Inner.Refining.{rows_of_clause, rows_of_clauses}
use Rattle.cd_rows.proofs.RefinedRows.{keep_has, refuse_has, clause_has}

module _ (nodes : ℕ) where
  abbrev IsBelow : NodeId → Type 0
  IsBelow id = id.0 < nodes

  abbrev Asks : Name × Cell → Type 0
  Asks cell = AsksNodes nodes cell.1.value

  -- what a record type says of a label is of a node of the type
  field_below : (named : List (Name × Field)) (rest : NodeId) (label : Name)
      → AllOf (λ field. IsBelow field.1.type) named → IsBelow rest
      → IsBelow (field_of named rest label).type
  field_below [] rest label each is = is
  field_below (field ∷ named) rest label each is =
      by_name (bytes_eq field.0 label) (field_below named rest label each.1 is)
    where
      by_name : (same : Bool) → IsBelow (field_of named rest label).type
          → IsBelow (if same then field.1 else field_of named rest label).type
      by_name true later = each.0
      by_name false later = later

  module _ (type : RecordType) (within : IsTypeWithin nodes type) where
    below_at : (label : Name) → IsBelow (field_at type label).type
    below_at label = field_below type.named type.rest label within.0 within.1

    within_asks : (cell : Name × Cell) → Asks cell → Asks (within_type type cell)
    within_asks cell asks = (
      each_with IsBelow (field_at type cell.0).type cell.1.value.pos (below_at cell.0) asks.0,
      asks.1,
    )

    without_asks : (cell : Name × Cell) → Asks cell → Asks (without_type type cell)
    without_asks cell asks = (
      asks.0,
      each_with IsBelow (field_at type cell.0).type cell.1.value.neg (below_at cell.0) asks.1,
    )

    put : (cell : Name × Cell) → Asks cell → (boxes : List (List (Name × Cell)))
        → AllOf (AllOf Asks) boxes → AllOf (AllOf Asks) (map (λ others. cell ∷ others) boxes)
    put cell asks [] each = tt
    put cell asks (box ∷ boxes) each = ((asks, each.0), put cell asks boxes each.1)

    cells_ask : (cells : List (Name × Cell)) → AllOf Asks cells
        → AllOf (AllOf Asks) (less_cells type cells)
    cells_ask [] each = tt
    cells_ask (cell ∷ cells) each = (
      (without_asks cell each.0, each.1),
      put (within_type type cell) (within_asks cell each.0) (less_cells type cells)
          (cells_ask cells each.1),
    )

    within_ask : (cells : List (Name × Cell)) → AllOf Asks cells
        → AllOf Asks (map (within_type type) cells)
    within_ask [] each = tt
    within_ask (cell ∷ cells) each = (within_asks cell each.0, within_ask cells each.1)

    -- a row less a type
    pub less_asks : (row : Row) → RowAsksNodes nodes row
        → AllOf (RowAsksNodes nodes) (less_row type row)
    less_asks row asks = each_of_lists (RowAsksNodes nodes)
        (map (with_cells row) (less_cells type row.cells)) (outside_rest type row ∷ [])
        (each_of_map (with_cells row) (RowAsksNodes nodes) (less_cells type row.cells)
        (each_weaker (AllOf Asks) (λ cells. RowAsksNodes nodes (with_cells row cells))
        (λ cells each. record { cells = each; every = asks.every; some = asks.some })
        (less_cells type row.cells) (cells_ask row.cells asks.cells))) (
          record {
            cells = within_ask row.cells asks.cells;
            every = asks.every;
            some = (
              (
                asks.every.0,
                each_with IsBelow type.rest row.every.neg within.1 asks.every.1,
              ),
              asks.some,
            );
          },
          tt,
        )

  -- the questions that a row needs
  pub present_ask : (cells : List (Name × Cell)) → AllOf Asks cells
      → AllOf (AsksNodes nodes) (present cells)
  present_ask [] each = tt
  present_ask (cell ∷ cells) each = by_test cell.1.absent (present_ask cells each.1)
    where
      by_test : (b : Bool) → AllOf (AsksNodes nodes) (present cells)
          → AllOf (AsksNodes nodes) (if b then present cells else cell.1.value ∷ present cells)
      by_test true later = later
      by_test false later = (each.0, later)

  pub needed_ask : (row : Row) → RowAsksNodes nodes row → AllOf (AsksNodes nodes) (needed row)
  needed_ask row asks = each_of_lists (AsksNodes nodes) (present row.cells) row.some
      (present_ask row.cells asks.cells) asks.some

  rests_below : (types : List RecordType) → AllOf (IsTypeWithin nodes) types
      → AllOf IsBelow (map (λ type. type.rest) types)
  rests_below types each = each_of_map (λ type. type.rest) IsBelow types
      (each_weaker (IsTypeWithin nodes) (λ type. IsBelow type.rest) (λ type is. is.1) types each)

  first_asks : (wanted refused : List RecordType) → AllOf (IsTypeWithin nodes) wanted
      → RowAsksNodes nodes (first_row wanted refused)
  first_asks wanted refused within =
      let both = row_asks nodes (labels_of (wanted ++ refused)) wanted within [] tt in record {
        cells = both.0;
        every = (
          each_of_set IsBelow (map (λ type. type.rest) wanted) (rests_below wanted within),
          tt,
        );
        some = tt;
      }

  module _ (test : List Question → Bool) where
    pub keep_asks : (rows : List Row) → AllOf (RowAsksNodes nodes) rows
        → AllOf (RowAsksNodes nodes) (keep test rows)
    keep_asks = keep_has test (RowAsksNodes nodes)

    pub refuse_asks : (type : RecordType) → IsTypeWithin nodes type → (rows : List Row)
        → AllOf (RowAsksNodes nodes) rows → AllOf (RowAsksNodes nodes) (refuse test type rows)
    refuse_asks = refuse_has test (RowAsksNodes nodes) (IsTypeWithin nodes) less_asks

    pub clauses_ask : (clauses : List RowClause) → AllOf (ClauseAsks nodes) clauses
        → AllOf (RowAsksNodes nodes) (rows_of_clauses test clauses)
    clauses_ask [] each = tt
    clauses_ask (clause ∷ clauses) each =
        each_of_lists (RowAsksNodes nodes) (rows_of_clause test clause)
        (rows_of_clauses test clauses)
        (clause_has test (RowAsksNodes nodes) (IsTypeWithin nodes) less_asks clause
        each.0.refused each.0.row)
        (clauses_ask clauses each.1)

-- the clauses of records of a question
module _ (graph : Graph) (sound : IsGraph graph) (question : Question) where
  clause_asks : (clause : Clause) → IsWithin (length graph) clause
      → AllOf (ClauseAsks (length graph)) (row_clause_of clause)
  clause_asks (Records wanted refused) within = (
    record {
      row = first_asks (length graph) wanted refused within.0;
      refused = within.1;
    },
    tt,
  )
  clause_asks _ within = tt

  pub row_clauses_ask : (all : List Clause) → AllOf (IsClauseOfQuestion graph question) all
      → AllOf (ClauseAsks (length graph)) (row_clauses all)
  row_clauses_ask [] each = tt
  row_clauses_ask (clause ∷ all) each =
      each_of_lists (ClauseAsks (length graph)) (row_clause_of clause) (row_clauses all)
      (clause_asks clause (clause_is_within graph sound question clause each.0))
      (row_clauses_ask all each.1)
