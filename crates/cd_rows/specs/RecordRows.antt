-- The records of a question as rows.
use Rattle.std.specs.Prelude.{◌≡◌, ◌⊎◌, ◌++◌, ℕ, Bool, true, List, [], ◌∷◌, bytes_eq}
use Rattle.std.specs.Prelude.{if◌then◌else◌}
use Rattle.cd_sets.specs.declared.node_id.NodeId.{NodeId}
use Rattle.cd_sets.specs.declared.question.Question.{Question}
use Rattle.cd_syntax.specs.Name.{Name, IsLabel}
use Rattle.cd_model.specs.AllOf.{AllOf, AnyOf}
use Rattle.cd_model.specs.Formula.{Graph, IsGraph, asked}
use Rattle.cd_model.specs.Interfaces.{Interfaces, value_in_node}
use Rattle.cd_model.specs.Thing.{Thing, Fields, Record, IsValue}
use Rattle.cd_model.specs.Types.{Answers}
use Rattle.cd_rules.specs.Family.{AsksNodes}
use Rattle.cd_rules.specs.InRow.{thing_at, IsInRow}
use Rattle.cd_rules.specs.Rows.{Cell, Row}
use Rattle.cd_products.specs.Products.{AreInterfacesOf}
use Rattle.cd_products.specs.QuestionBoxes.{InQuestion, IsInhabited}

-- the cell at a label, where at a label of no cell there is nothing or a value of this question
abbrev pub cell_in : List (Name × Cell) → Question → Name → Cell
cell_in [] every label = record { absent = true; value = every }
cell_in (cell ∷ cells) every label =
    if bytes_eq cell.0 label then cell.1 else cell_in cells every label

-- what a value at a label is in, and whether nothing may stand there
abbrev pub asked_at : Row → Name → Question
asked_at row label = (cell_in row.cells row.every label).value

abbrev pub may_lack : Row → Name → Bool
may_lack row label = (cell_in row.cells row.every label).absent

-- no label has two cells
abbrev pub HaveOwnLabels : List (Name × Cell) → Type 0
HaveOwnLabels [] = Unit {0}
HaveOwnLabels (cell ∷ cells) =
    (AnyOf (λ other. other.0 ≡ cell.0) cells → ⊥) × HaveOwnLabels cells

-- each question of a row asks nodes among so many
pub record RowAsksNodes (nodes : ℕ) (row : Row) : Type 0 where
  pub cells : AllOf (λ cell. AsksNodes nodes cell.1.value) row.cells
  pub every : AsksNodes nodes row.every
  pub some : AllOf (AsksNodes nodes) row.some

-- things, by what they answer
module _ (answers : Thing → Answers NodeId) where
  -- a record, by its fields, is in a row
  abbrev pub InRecordRow : Fields → Row → Type 0
  InRecordRow fields row = IsInRow answers (thing_at fields) row

  -- and by their sort
  module _ (Sort : Thing → Type 0) where
    -- A row that has a record: at the label of each cell there may be nothing or there is a thing
    -- for it, and there is one for each question of `some`, which is in `every` then
    pub record RowHasWitnesses (row : Row) : Type 0 where
      pub cells : AllOf
          (λ cell. (cell.1.absent ≡ true) ⊎ IsInhabited answers Sort cell.1.value) row.cells
      pub some : AllOf (IsInhabited answers Sort) row.some
      pub within : AllOf
          (λ question. (d : Thing) → Sort d → InQuestion answers d question
          → InQuestion answers d row.every)
          row.some
      pub labels : AllOf (λ cell. IsLabel cell.0) row.cells
      pub once : HaveOwnLabels row.cells

    -- each record of the question is in a row
    abbrev pub CoverRecords : Question → List Row → Type 0
    CoverRecords question rows = (fields : Fields) → Sort (Record fields)
        → asked (answers (Record fields)) question true → AnyOf (InRecordRow fields) rows

    -- and the rows hold no other records, and each of them has one
    pub record AreRecordRows (question : Question) (rows : List Row) : Type 0 where
      pub covers : CoverRecords question rows
      pub only : (fields : Fields) → Sort (Record fields) → AnyOf (InRecordRow fields) rows
          → asked (answers (Record fields)) question true
      pub witnesses : AllOf RowHasWitnesses rows

-- Rows cover the records of a question that are values in each sound graph that begins with this
-- one, under all interfaces of that graph
abbrev pub CoverRecordValues : Graph → Question → List Row → Type 0
CoverRecordValues graph question rows = (more : Graph) (interfaces : Interfaces)
    → IsGraph (graph ++ more) → AreInterfacesOf (graph ++ more) interfaces
    → CoverRecords (value_in_node (graph ++ more) interfaces) IsValue question rows
