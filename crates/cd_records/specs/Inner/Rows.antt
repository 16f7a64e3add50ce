-- Rows of a graph.
use Rattle.std.specs.Prelude.{Bool, List, [], ◌∷◌, length, bytes_eq}
use Rattle.std.specs.List.{list_any}
use Rattle.cd_sets.specs.declared.node_id.NodeId.{NodeId}
use Rattle.cd_syntax.specs.Name.{Name}
use Rattle.cd_model.specs.AllOf.{AllOf}
use Rattle.cd_model.specs.Formula.{Graph, in_node}
use Rattle.cd_model.specs.Thing.{IsElement}
use Rattle.cd_rules.specs.Needs.{question}
use Rattle.cd_rules.specs.Rows.{Cell, Row}
use Rattle.cd_rows.specs.RecordRows.{AreRecordRows, RowHasWitnesses, RowAsksNodes}

-- they hold the records of a node
abbrev pub AreRowsOf : Graph → NodeId → List Row → Type 0
AreRowsOf graph a rows = AreRecordRows (in_node graph) IsElement (question (a ∷ []) []) rows

-- they ask nodes of the graph, and each of them has a record
pub record AreRowsIn (graph : Graph) (rows : List Row) : Type 0 where
  pub asks : AllOf (RowAsksNodes (length graph)) rows
  pub witnesses : AllOf (RowHasWitnesses (in_node graph) IsElement) rows

-- whether a label has a cell
abbrev pub has_cell : List (Name × Cell) → Name → Bool
has_cell cells label = list_any (λ cell. bytes_eq cell.0 label) cells
