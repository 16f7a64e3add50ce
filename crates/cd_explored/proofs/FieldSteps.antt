-- The steps of nodes that take records, by rows.
use Rattle.std.proofs.Common.{◌<◌, ◌++◌, ℕ, Bool, true, false, List, [], ◌∷◌, map, length, None, refl}
use Rattle.std.proofs.Common.{bytes_eq, if◌then◌else◌}
use Rattle.cd_sets.specs.declared.node_id.NodeId.{NodeId}
use Rattle.cd_sets.specs.declared.question.Question.{Question}
use Rattle.cd_syntax.specs.Name.{Name}
use Rattle.cd_model.specs.AllOf.{AllOf}
use Rattle.cd_model.specs.Formula.{Graph, in_node, AreRisingLabels}
use Rattle.cd_model.specs.Interfaces.{value_in_node}
use Rattle.cd_model.specs.Thing.{IsElement, IsValue}
use Rattle.cd_model.proofs.Ones.{each_of_lists}
use Rattle.cd_matching.specs.Kernel.{KernelNode, KernelField, Present, Optional, Record}
use Rattle.cd_matching.specs.Kernel.{field_nodes}
use Rattle.cd_rules.specs.Family.{AsksNodes}
use Rattle.cd_rules.specs.Rows.{Cell, Row}
use Rattle.cd_rows.specs.RecordRows.{cell_in, AreRecordRows, CoverRecordValues}
use Rattle.cd_rows.specs.RecordRows.{RowAsksNodes}
use Rattle.cd_rows.proofs.RecordsOfRows.{has_picked}
use Rattle.cd_filter.specs.Table.{Step, cell_steps, row_steps}
use Rattle.cd_explored.specs.Inner.FieldRows.{asked_fields}
use Rattle.cd_explored.specs.NextPlaces.{NextHas}
use Rattle.cd_explored.specs.Inner.NodeSteps.{IsInRange, AreNodeSteps}
use Rattle.cd_explored.proofs.RowsOfRecords.{cover_fields, fields_are_rows}

-- what a row asks at a label asks nodes that the row asks
cell_asks : (nodes : ℕ) (cells : List (Name × Cell)) (every : Question) (label : Name)
    → AllOf (λ cell. AsksNodes nodes cell.1.value) cells → AsksNodes nodes every
    → AsksNodes nodes (cell_in cells every label).value
cell_asks nodes [] every label asks other = other
cell_asks nodes (cell ∷ cells) every label asks other =
    by_test (bytes_eq cell.0 label) (cell_asks nodes cells every label asks.1 other)
  where
    by_test : (b : Bool) → AsksNodes nodes (cell_in cells every label).value
        → AsksNodes nodes (if b then cell.1 else cell_in cells every label).value
    by_test true later = asks.0
    by_test false later = later

module _ (graph : Graph) (nodes : List (KernelNode NodeId)) where
  abbrev InRange : Step → Type 0
  InRange = NextHas (IsInRange (length graph) (length nodes))

  abbrev IsNumber : ℕ → Type 0
  IsNumber number = number < length nodes

  cells_in_range : (named : List (Name × KernelField NodeId)) (row : Row)
      → AllOf IsNumber (field_nodes named) → RowAsksNodes (length graph) row
      → AllOf InRange (cell_steps named (asked_fields named row))
  cells_in_range [] row numbers asks = tt
  cells_in_range ((label, Present number) ∷ named) row numbers asks = (
    record {
      number = numbers.0;
      asks = cell_asks (length graph) row.cells row.every label asks.cells asks.every;
    },
    cells_in_range named row numbers.1 asks,
  )
  cells_in_range ((label, Optional type) ∷ named) row numbers asks =
      cells_in_range named row numbers asks

  rows_in_range : (named : List (Name × KernelField NodeId)) (rows : List Row)
      → AllOf IsNumber (field_nodes named) → AllOf (RowAsksNodes (length graph)) rows
      → AllOf InRange (row_steps named (map (asked_fields named) rows))
  rows_in_range named [] numbers asks = tt
  rows_in_range named (row ∷ rows) numbers asks = each_of_lists InRange
      (cell_steps named (asked_fields named row)) (row_steps named (map (asked_fields named) rows))
      (cells_in_range named row numbers asks.0) (rows_in_range named rows numbers asks.1)

  pub steps_of_rows : (first : ℕ) (question : Question)
      (named : List (Name × KernelField NodeId)) (more : Bool) (rows : List Row)
      → AreRisingLabels None named → AllOf IsNumber (field_nodes named)
      → AreRecordRows (in_node graph) IsElement question rows
      → CoverRecordValues graph question rows → AllOf (RowAsksNodes (length graph)) rows
      → AreNodeSteps graph nodes first question (Record named more)
      (row_steps named (map (asked_fields named) rows))
  steps_of_rows first question named more rows rising numbers are cover asks = record {
    elements = (
      map (asked_fields named) rows,
      fields_are_rows (in_node graph) IsElement question
          (λ row label e witnesses. has_picked (in_node graph) row witnesses label e) named rows rising are,
      refl,
    );
    values = λ others interfaces sound arrows. (
      map (asked_fields named) rows,
      cover_fields (value_in_node (graph ++ others) interfaces) IsValue question named rows
          (cover others interfaces sound arrows),
      refl,
    );
    in_range = rows_in_range named rows numbers asks;
  }
