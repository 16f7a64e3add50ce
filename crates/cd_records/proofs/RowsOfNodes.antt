-- What some record of a node has at a label is what one of the node's rows says there.
use Rattle.std.proofs.Common.{◌≡◌, List, [], ◌∷◌, ◌++◌, Option, subst, sym}
use Rattle.cd_sets.specs.declared.node_id.NodeId.{NodeId}
use Rattle.cd_syntax.specs.Name.{Name, IsLabel}
use Rattle.cd_model.specs.AllOf.{AnyOf}
use Rattle.cd_model.specs.BuiltIns.{built_ins, EMPTY}
use Rattle.cd_model.specs.Formula.{Graph, in_node}
use Rattle.cd_model.specs.Thing.{Thing, Fields, Record, IsElement}
use Rattle.cd_rules.specs.InRow.{thing_at, IsInCell}
use Rattle.cd_rules.specs.Needs.{question}
use Rattle.cd_rules.specs.Rows.{Row}
use Rattle.cd_model.proofs.Ones.{one_weaker, one_with_each, picked}
use Rattle.cd_model.proofs.ReadHeads.{nothing_in_empty}
use Rattle.cd_products.specs.QuestionBoxes.{InQuestion}
use Rattle.cd_rows.specs.RecordRows.{InRecordRow, RowHasWitnesses, cell_in}
use Rattle.cd_rows.proofs.RowsWithWitnesses.{IsOfSort}
use Rattle.cd_rows.proofs.RecordsOfRows.{has_record}
use Rattle.cd_meaning.specs.Records.{HasRecord}
use Rattle.cd_meaning.specs.Sets.{elements_of}
use Rattle.cd_records.specs.Inner.Rows.{AreRowsOf}
use Rattle.cd_records.proofs.HadInRows.{Has, row_has, has_in_row}

-- one of them says so of a label
abbrev pub IsSaid : Graph → List Row → Name → Option Thing → Type 0
IsSaid graph rows label what =
    AnyOf (λ row. IsInCell (in_node graph) what (cell_in row.cells row.every label)) rows

module _ (graph more : Graph) (begins : graph ≡ built_ins ++ more) (a : NodeId) (rows : List Row)
    (are : AreRowsOf graph a rows) where
  abbrev pub In : Fields → Row → Type 0
  In = InRecordRow (in_node graph)

  abbrev pub HasIt : Fields → Type 0
  HasIt = HasRecord (elements_of graph a)

  pub row_of_record : (fields : Fields) → HasIt fields → AnyOf (In fields) rows
  row_of_record fields has = are.covers fields has.0 ((has.1, tt), tt)

  pub record_of_rows : (fields : Fields) → IsElement (Record fields) → AnyOf (In fields) rows
      → HasIt fields
  record_of_rows fields is one = (is, (are.only fields is one).0.0)

  pub record_of_row : (fields : Fields) → IsElement (Record fields) → (row : Row)
      → AnyOf (λ other. other ≡ row) rows → In fields row → HasIt fields
  record_of_row fields is row among in_row = record_of_rows fields is
      (one_weaker (λ other. other ≡ row) (In fields)
      (λ other same. subst (In fields) (sym same) in_row) rows among)

  -- some record of the node, if it has a row
  pub some_record : AnyOf (λ (row : Row). Unit {0}) rows → (fields : Fields) × HasIt fields
  some_record one =
      let at = picked (λ row. Unit {0} × RowHasWitnesses (in_node graph) IsElement row) rows
      (one_with_each (λ row. Unit {0}) (RowHasWitnesses (in_node graph) IsElement) rows one
      are.witnesses) in
      let made = has_record (in_node graph) at.0 at.2.1 in
      (made.0, record_of_row made.0 made.1 at.0 at.1 made.2)

  -- some record of the node has this at a label
  abbrev pub IsHad : Name → Option Thing → Type 0
  IsHad label what = (fields : Fields) × HasIt fields × (thing_at fields label ≡ what)

  nothing : (d : Thing) → InQuestion (in_node graph) d (question (EMPTY ∷ []) []) → ⊥
  nothing d inside = nothing_in_empty graph more begins d inside.0.0

  module _ (label : Name) (is_label : IsLabel label) (what : Option Thing) where
    abbrev HasThere : Row → Type 0
    HasThere row = Has (in_node graph) (question (EMPTY ∷ []) []) nothing label is_label row what

    pub had_is_said : IsHad label what → IsSaid graph rows label what
    had_is_said (fields, has, there) = one_weaker (In fields)
        (λ row. IsInCell (in_node graph) what (cell_in row.cells row.every label))
        (λ row in_row. has_in_row (in_node graph) (question (EMPTY ∷ []) []) nothing label is_label
        row what (fields, has.0, in_row, there)) rows (row_of_record fields has)

    pub said_is_had : IsOfSort IsElement what → IsSaid graph rows label what → IsHad label what
    said_is_had sort said =
        let at = picked (λ row. IsInCell (in_node graph) what (cell_in row.cells row.every label)
        × RowHasWitnesses (in_node graph) IsElement row) rows
        (one_with_each (λ row. IsInCell (in_node graph) what
        (cell_in row.cells row.every label)) (RowHasWitnesses (in_node graph) IsElement) rows said
        are.witnesses) in
        let has : HasThere at.0 = row_has (in_node graph) (question (EMPTY ∷ []) []) nothing label
        is_label at.0 at.2.1 what sort at.2.0 in
        (has.0, record_of_row has.0 has.1 at.0 at.1 has.2, has.3)
