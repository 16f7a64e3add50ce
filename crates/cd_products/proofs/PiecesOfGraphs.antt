-- The pieces of the clauses of a question ask nodes of the graph, and so do its products.
use Rattle.std.proofs.Common.{◌≡◌, Bool, List, [], ◌∷◌, ◌++◌, ◌<◌, length, subst, sym}
use Rattle.cd_sets.specs.declared.node_id.NodeId.{NodeId}
use Rattle.cd_sets.specs.declared.question.Question.{Question}
use Rattle.cd_model.specs.AllOf.{AllOf}
use Rattle.cd_model.specs.BuiltIns.{built_ins}
use Rattle.cd_model.specs.Formula.{Graph, IsGraph}
use Rattle.cd_model.proofs.Ones.{each_of_lists}
use Rattle.cd_rules.specs.Family.{AsksNodes}
use Rattle.cd_products.specs.QuestionBoxes.{QuestionClause, question_pieces, question_pieces_of}
use Rattle.cd_products.specs.QuestionBoxes.{pairs_of, triples_of}
use Rattle.cd_products.specs.Products.{ProductsAsk, TriplesAsk}
use Rattle.cd_products.specs.Inner.Tests.{AreOfGraph, IsBoxOfGraph, IsTest, keep_boxes}
use Rattle.cd_products.specs.Inner.Tests.{refuse_row, refuse_rows}
use Rattle.cd_products.proofs.BoxesOfGraphs.{keep_of_graph, refuse_of_graph}
use Rattle.cd_products.proofs.MadeOfGraphs.{made_of_graph}

module _ (graph : Graph) where
  rows_of_graph : (test : List Question → Bool) (rows : List (List NodeId))
      (boxes : List (List Question)) → AllOf (AllOf (λ id. id.0 < length graph)) rows
      → AreOfGraph graph boxes → AreOfGraph graph (refuse_rows test rows boxes)
  rows_of_graph test [] boxes below each = each
  rows_of_graph test (row ∷ rows) boxes below each =
      rows_of_graph test rows (refuse_row test row boxes) below.1
      (refuse_of_graph graph test row boxes below.0 each)

  pieces_of_graph : (test : List Question → Bool) (clause : QuestionClause)
      → IsBoxOfGraph graph clause → AreOfGraph graph (question_pieces_of test clause)
  pieces_of_graph test clause is =
      rows_of_graph test clause.refused (keep_boxes test (clause.box ∷ [])) is.1
      (keep_of_graph graph test (clause.box ∷ []) (is.0, tt))

  all_pieces_of_graph : (test : List Question → Bool) (clauses : List QuestionClause)
      → AllOf (IsBoxOfGraph graph) clauses → AreOfGraph graph (question_pieces test clauses)
  all_pieces_of_graph test [] each = tt
  all_pieces_of_graph test (clause ∷ clauses) each =
      each_of_lists (AllOf (AsksNodes (length graph))) (question_pieces_of test clause)
      (question_pieces test clauses) (pieces_of_graph test clause each.0)
      (all_pieces_of_graph test clauses each.1)

  pub pairs_ask : (boxes : List (List Question)) (products : List (Question × Question))
      → products ≡ pairs_of boxes → AreOfGraph graph boxes → ProductsAsk (length graph) products
  pairs_ask boxes products same each = subst (ProductsAsk (length graph)) (sym same)
      (of_boxes boxes each)
    where
      of_boxes : (boxes : List (List Question)) → AreOfGraph graph boxes
          → ProductsAsk (length graph) (pairs_of boxes)
      of_boxes [] each = tt
      of_boxes ([] ∷ boxes) each = of_boxes boxes each.1
      of_boxes ((a ∷ []) ∷ boxes) each = of_boxes boxes each.1
      of_boxes ((a ∷ b ∷ []) ∷ boxes) each = ((each.0.0, each.0.1.0), of_boxes boxes each.1)
      of_boxes ((a ∷ b ∷ c ∷ cells) ∷ boxes) each = of_boxes boxes each.1

  pub triples_ask : (boxes : List (List Question))
      (triples : List (Question × Question × Question)) → triples ≡ triples_of boxes
      → AreOfGraph graph boxes → TriplesAsk (length graph) triples
  triples_ask boxes triples same each = subst (TriplesAsk (length graph)) (sym same)
      (of_boxes boxes each)
    where
      of_boxes : (boxes : List (List Question)) → AreOfGraph graph boxes
          → TriplesAsk (length graph) (triples_of boxes)
      of_boxes [] each = tt
      of_boxes ([] ∷ boxes) each = of_boxes boxes each.1
      of_boxes ((a ∷ []) ∷ boxes) each = of_boxes boxes each.1
      of_boxes ((a ∷ b ∷ []) ∷ boxes) each = of_boxes boxes each.1
      of_boxes ((a ∷ b ∷ c ∷ []) ∷ boxes) each =
          ((each.0.0, each.0.1.0, each.0.1.1.0), of_boxes boxes each.1)
      of_boxes ((a ∷ b ∷ c ∷ d ∷ cells) ∷ boxes) each = of_boxes boxes each.1

-- boxes that are the pieces by each right test are of the graph
pub made_ask : (graph : Graph) → ((more : Graph) × (graph ≡ built_ins ++ more))
    → IsGraph graph → (clauses : List QuestionClause) (boxes : List (List Question))
    → ((test : List Question → Bool) → IsTest graph test → boxes ≡ question_pieces test clauses)
    → AllOf (IsBoxOfGraph graph) clauses → AreOfGraph graph boxes
made_ask graph begins sound clauses boxes made each =
    made_of_graph graph begins sound boxes (λ test. question_pieces test clauses) made
    (λ test. all_pieces_of_graph graph test clauses each)
