-- Records of rows without a label, and merged records, by what is said of labels.
use Rattle.std.specs.Prelude.{◌≡◌, ◌<◌, List, [], ◌∷◌, ◌++◌, map, length}
use Rattle.cd_sets.specs.declared.node_id.NodeId.{NodeId}
use Rattle.cd_sets.specs.declared.question.Question.{Question}
use Rattle.cd_syntax.specs.Name.{Name, IsLabel}
use Rattle.cd_model.specs.AllOf.{AllOf, AnyOf}
use Rattle.cd_model.specs.Formula.{Graph, Formula, Or, formulas_of}
use Rattle.cd_model.specs.Thing.{Fields}
use Rattle.cd_rules.specs.Family.{AsksNodes}
use Rattle.cd_rules.specs.Rows.{Row}
use Rattle.cd_rows.specs.RecordRows.{RowAsksNodes}
use Rattle.cd_meaning.specs.Records.{IsMergeOf, IsRestOf}
use Rattle.cd_meaning.specs.Sets.{◌⊆◌, elements_of}
use Rattle.cd_records.specs.Inner.Labels.{labels_in, row_labels}
use Rattle.cd_records.specs.Inner.Leaving.{AreLefts, Choice, rest_entries}
use Rattle.cd_records.specs.Inner.Rows.{AreRowsOf}
use Rattle.cd_records.specs.Inner.Saying.{merged_entries, merged_every}
use Rattle.cd_records.specs.Inner.Standing.{HoldsRecords, IsAsSaid, IsRest}

-- the labels of two lists of rows
abbrev pub merged_labels : (first second : List Row) → List Name
merged_labels first second = row_labels second (row_labels first [])

-- a record is as merged records are said to be
abbrev pub IsMergedSaid : Graph → (first second : List Row) → Fields → Type 0
IsMergedSaid graph first second = IsAsSaid graph
    (merged_entries first second (merged_labels first second)) (merged_every first second)

-- a node holds exactly what records of two nodes with these rows merge to
pub record IsMergedNode (graph new : Graph) (first second : List Row) (id : NodeId) : Type 0 where
  pub node : id.0 < length new
  pub has : (a b : NodeId) → AreRowsOf graph a first → AreRowsOf graph b second
      → IsMergeOf (elements_of graph a) (elements_of graph b) ⊆ elements_of new id
  pub only : (a b : NodeId) → AreRowsOf graph a first → AreRowsOf graph b second
      → elements_of new id ⊆ IsMergeOf (elements_of graph a) (elements_of graph b)

-- a row and questions that are left of it
abbrev pub Rest : Type 0
Rest = Row × List Question

-- they ask nodes of a graph, and the row has labels
pub record RestIsIn (graph : Graph) (rest : Rest) : Type 0 where
  pub row : RowAsksNodes (length graph) rest.0
  pub left : AllOf (AsksNodes (length graph)) rest.1
  pub labels : AllOf IsLabel (labels_in rest.0.cells)

-- what is left of each row where a label goes
abbrev pub AreRests : Graph → Name → List Row → List Rest → Type 0
AreRests graph label [] rests = rests ≡ []
AreRests graph label (row ∷ rows) rests = (lefts : List (List Question)) × (later : List Rest)
    × AreLefts graph row label lefts × AreRests graph label rows later
    × (rests ≡ map (λ left. (row, left)) lefts ++ later)

-- those of one row come after others
abbrev pub AddsRests : Graph → Name → Row → (old new : List Rest) → Type 0
AddsRests graph label row old new = (lefts : List (List Question)) × AreLefts graph row label lefts
    × (new ≡ old ++ map (λ left. (row, left)) lefts)

-- what is left by choices
abbrev pub rests_of_choices : Row → List Choice → List Rest
rests_of_choices row choices = map (λ choice. (row, choice.left)) choices

-- a record is one of the row without the label, and so for one of some rows
abbrev pub IsOfRest : Graph → Name → Rest → Fields → Type 0
IsOfRest graph label rest =
    IsRest graph (rest_entries rest.0 label) (rest.0.every ∷ []) rest.1

abbrev pub IsOfRests : Graph → Name → List Rest → Fields → Type 0
IsOfRests graph label rests fields = AnyOf (λ rest. IsOfRest graph label rest fields) rests

-- a formula holds the records of a row without the label
abbrev pub HoldsRest : Graph → (batch : List Formula) → Name → Rest → Formula → Type 0
HoldsRest graph batch label rest = HoldsRecords graph batch (IsOfRest graph label rest)

-- the union of formulas, which is the formula itself of one
abbrev pub joined : List Formula → Formula
joined (one ∷ []) = one
joined formulas = Or (formulas_of formulas)

-- a node holds exactly the records of a node with these rows without the label
pub record IsRestNode (graph new : Graph) (label : Name) (rows : List Row) (id : NodeId)
    : Type 0 where
  pub node : id.0 < length new
  pub has : (a : NodeId) → AreRowsOf graph a rows
      → IsRestOf label (elements_of graph a) ⊆ elements_of new id
  pub only : (a : NodeId) → AreRowsOf graph a rows
      → elements_of new id ⊆ IsRestOf label (elements_of graph a)
