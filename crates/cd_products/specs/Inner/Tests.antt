-- Tests that say of each box of questions of a graph whether it is inhabited, and the steps by
-- which the pieces of a clause are made with such a test.
use Rattle.std.specs.Prelude.{◌<◌, Bool, true, false, List, length}
use Rattle.cd_sets.specs.declared.node_id.NodeId.{NodeId}
use Rattle.cd_sets.specs.declared.question.Question.{Question}
use Rattle.cd_model.specs.AllOf.{AllOf, AnyOf}
use Rattle.cd_model.specs.Formula.{Graph}
use Rattle.cd_rules.specs.Family.{AsksNodes}
use Rattle.cd_rules.specs.Members.{HasElement}
use Rattle.cd_products.specs.Boxes.{less, keep, refuse, refuse_all}
use Rattle.cd_products.specs.QuestionBoxes.{QuestionClause, within_node, without_node}

-- each question of a box has an element, or one of them has none
abbrev pub IsTested : Graph → List Question → Bool → Type 0
IsTested graph box true = AllOf (HasElement graph) box
IsTested graph box false = AnyOf (λ question. HasElement graph question → ⊥) box

-- a test says so of each box of questions of a graph
abbrev pub IsTest : Graph → (List Question → Bool) → Type 0
IsTest graph test = (box : List Question) → AllOf (AsksNodes (length graph)) box
    → IsTested graph box (test box)

-- a box less a row, the boxes that pass a test, and boxes less a row and less several rows
abbrev pub less_row : List NodeId → List Question → List (List Question)
less_row = less Question NodeId within_node without_node

abbrev pub keep_boxes : (List Question → Bool) → List (List Question) → List (List Question)
keep_boxes = keep Question NodeId within_node without_node

abbrev pub refuse_row : (List Question → Bool) → List NodeId → List (List Question)
    → List (List Question)
refuse_row = refuse Question NodeId within_node without_node

abbrev pub refuse_rows : (List Question → Bool) → List (List NodeId) → List (List Question)
    → List (List Question)
refuse_rows = refuse_all Question NodeId within_node without_node

-- boxes of questions of a graph
abbrev pub AreOfGraph : Graph → List (List Question) → Type 0
AreOfGraph graph = AllOf (AllOf (AsksNodes (length graph)))

-- a clause whose box is of questions of a graph, and whose rows are of its nodes
abbrev pub IsBoxOfGraph : Graph → QuestionClause → Type 0
IsBoxOfGraph graph clause = AllOf (AsksNodes (length graph)) clause.box
    × AllOf (AllOf (λ id. id.0 < length graph)) clause.refused
