-- What is made of boxes of questions of a graph is of questions of it.
use Rattle.std.proofs.Common.{◌≡◌, ◌<◌, ◌≤◌, Bool, true, false, List, [], ◌∷◌, ◌++◌, map, length}
use Rattle.std.proofs.Common.{ap, ◌∙◌}
use Rattle.std.proofs.Common.{length-append, arith}
use Rattle.cd_sets.specs.declared.node_id.NodeId.{NodeId}
use Rattle.cd_sets.specs.declared.question.Question.{Question}
use Rattle.cd_model.specs.AllOf.{AllOf}
use Rattle.cd_model.specs.BuiltIns.{built_ins}
use Rattle.cd_model.specs.Formula.{Graph, IsGraph}
use Rattle.cd_model.proofs.Ones.{each_of_lists}
use Rattle.cd_rules.specs.Clauses.{Clause, Pair, Triple, Pairs, Xmls, IsClauseOfQuestion}
use Rattle.cd_rules.specs.Family.{AsksNodes}
use Rattle.cd_rules.specs.Within.{IsWithin, IsPairWithin, IsXmlWithin}
use Rattle.cd_rules.proofs.PartsAsk.{clause_is_within, pair_way_asks, xml_way_asks}
use Rattle.cd_products.specs.Boxes.{keep_if}
use Rattle.cd_products.specs.QuestionBoxes.{within_node, without_node}
use Rattle.cd_products.specs.Inner.ClauseBoxes.{pair_row, pair_box_of, pair_boxes}
use Rattle.cd_products.specs.Inner.ClauseBoxes.{triple_row, triple_box_of, triple_boxes}
use Rattle.cd_products.specs.Inner.Tests.{AreOfGraph, IsBoxOfGraph, less_row, keep_boxes}
use Rattle.cd_products.specs.Inner.Tests.{refuse_row}
use Rattle.cd_products.proofs.OneMore.{each_with}

module _ (graph : Graph) where
  abbrev IsBelow : NodeId → Type 0
  IsBelow id = id.0 < length graph

  abbrev Asks : Question → Type 0
  Asks = AsksNodes (length graph)

  put : (cell : Question) → Asks cell → (boxes : List (List Question)) → AreOfGraph graph boxes
      → AreOfGraph graph (map (λ box. cell ∷ box) boxes)
  put cell asks [] each = tt
  put cell asks (box ∷ boxes) each = ((asks, each.0), put cell asks boxes each.1)

  pub less_of_graph : (row : List NodeId) (cells : List Question) → AllOf IsBelow row
      → AllOf Asks cells → AreOfGraph graph (less_row row cells)
  less_of_graph [] cells below asks = tt
  less_of_graph (id ∷ row) [] below asks = tt
  less_of_graph (id ∷ row) (cell ∷ cells) below asks = (
    ((asks.0.0, each_with IsBelow id cell.neg below.0 asks.0.1), asks.1),
    put (within_node id cell) (each_with IsBelow id cell.pos below.0 asks.0.0, asks.0.1)
        (less_row row cells) (less_of_graph row cells below.1 asks.1),
  )

  pub keep_of_graph : (test : List Question → Bool) (boxes : List (List Question))
      → AreOfGraph graph boxes → AreOfGraph graph (keep_boxes test boxes)
  keep_of_graph test [] each = tt
  keep_of_graph test (box ∷ boxes) each =
      by_test (test box) (keep_of_graph test boxes each.1)
    where
      by_test : (b : Bool) → AreOfGraph graph (keep_boxes test boxes)
          → AreOfGraph graph
          (keep_if Question NodeId within_node without_node test b box (keep_boxes test boxes))
      by_test true further = (each.0, further)
      by_test false further = further

  pub refuse_of_graph : (test : List Question → Bool) (row : List NodeId)
      (boxes : List (List Question)) → AllOf IsBelow row → AreOfGraph graph boxes
      → AreOfGraph graph (refuse_row test row boxes)
  refuse_of_graph test row [] below each = tt
  refuse_of_graph test row (box ∷ boxes) below each =
      each_of_lists (AllOf Asks) (keep_boxes test (less_row row box)) (refuse_row test row boxes)
      (keep_of_graph test (less_row row box) (less_of_graph row box below each.0))
      (refuse_of_graph test row boxes below each.1)

  pair_rows : (refused : List Pair) → AllOf (IsPairWithin (length graph)) refused
      → AllOf (AllOf IsBelow) (map pair_row refused)
  pair_rows [] each = tt
  pair_rows (parts ∷ refused) each =
      ((each.0.0, (each.0.1, tt)), pair_rows refused each.1)

  triple_rows : (refused : List Triple) → AllOf (IsXmlWithin (length graph)) refused
      → AllOf (AllOf IsBelow) (map triple_row refused)
  triple_rows [] each = tt
  triple_rows (parts ∷ refused) each =
      ((each.0.0, (each.0.1, (each.0.2, tt))), triple_rows refused each.1)

  -- the boxes of the clauses of a question
  module _ (begins : (more : Graph) × (graph ≡ built_ins ++ more)) (sound : IsGraph graph)
      (question : Question) where
    pair_box_of_graph : (clause : Clause) → IsWithin (length graph) clause
        → AllOf (IsBoxOfGraph graph) (pair_box_of clause)
    pair_box_of_graph (Pairs wanted refused) within = (
      (
        pair_way_asks (length graph) wanted within.0 ([], []) (tt, tt),
        pair_rows refused within.1,
      ),
      tt,
    )
    pair_box_of_graph _ within = tt

    pub pair_boxes_of_graph : (all : List Clause)
        → AllOf (IsClauseOfQuestion graph question) all
        → AllOf (IsBoxOfGraph graph) (pair_boxes all)
    pair_boxes_of_graph [] each = tt
    pair_boxes_of_graph (clause ∷ all) each =
        each_of_lists (IsBoxOfGraph graph) (pair_box_of clause) (pair_boxes all)
        (pair_box_of_graph clause (clause_is_within graph sound question clause each.0))
        (pair_boxes_of_graph all each.1)

    least : 14 ≤ length graph
    least = let long = ap length begins.1 ∙ length-append built_ins begins.0 in omega arith

    triple_box_of_graph : (clause : Clause) → IsWithin (length graph) clause
        → AllOf (IsBoxOfGraph graph) (triple_box_of clause)
    triple_box_of_graph (Xmls wanted refused) within = (
      (
        xml_way_asks (length graph) least wanted within.0 ([], [], []) (tt, tt, tt),
        triple_rows refused within.1,
      ),
      tt,
    )
    triple_box_of_graph _ within = tt

    pub triple_boxes_of_graph : (all : List Clause)
        → AllOf (IsClauseOfQuestion graph question) all
        → AllOf (IsBoxOfGraph graph) (triple_boxes all)
    triple_boxes_of_graph [] each = tt
    triple_boxes_of_graph (clause ∷ all) each =
        each_of_lists (IsBoxOfGraph graph) (triple_box_of clause) (triple_boxes all)
        (triple_box_of_graph clause (clause_is_within graph sound question clause each.0))
        (triple_boxes_of_graph all each.1)
