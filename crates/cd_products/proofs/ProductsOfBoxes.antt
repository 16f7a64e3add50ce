-- What the code makes of the boxes of a question's clauses are its products.
use Rattle.std.proofs.Common.{◌≡◌, Bool, List, ◌++◌, map, length, subst, sym, ap, ◌∙◌}
use Rattle.cd_sets.specs.declared.question.Question.{Question}
use Rattle.cd_model.specs.AllOf.{AllOf}
use Rattle.cd_model.specs.BuiltIns.{built_ins}
use Rattle.cd_model.specs.Formula.{Graph, IsGraph, in_node}
use Rattle.cd_model.specs.Thing.{IsElement}
use Rattle.cd_rules.specs.Clauses.{Clause}
use Rattle.cd_rules.specs.Family.{AsksNodes}
use Rattle.cd_products.specs.declared.clause_box.ClauseBox.{ClauseBox}
use Rattle.cd_products.specs.QuestionBoxes.{QuestionClause, question_pieces, pairs_of, triples_of}
use Rattle.cd_products.specs.Products.{AreProducts, CoverValues, AreTriples, CoverTripleValues}
use Rattle.cd_products.specs.Inner.ClauseBoxes.{AreClauses, pair_boxes, triple_boxes}
use Rattle.cd_products.specs.Inner.PlainBoxes.{plain_box}
use Rattle.cd_products.specs.Inner.Tests.{IsTest, IsBoxOfGraph}
use Rattle.cd_products.proofs.BoxesOfGraphs.{pair_boxes_of_graph, triple_boxes_of_graph}
use Rattle.cd_products.proofs.MadeProducts.{are_products, cover_values, are_triples}
use Rattle.cd_products.proofs.MadeProducts.{cover_triple_values}

-- the boxes of all clauses of a question
abbrev pub ArePairBoxes : Question → Graph → List QuestionClause → Type 0
ArePairBoxes question graph clauses = (all : List Clause)
    × AreClauses graph question all × (clauses ≡ pair_boxes all)

abbrev pub AreTripleBoxes : Question → Graph → List QuestionClause → Type 0
AreTripleBoxes question graph clauses = (all : List Clause)
    × AreClauses graph question all × (clauses ≡ triple_boxes all)

-- they are so of an equal graph
pub boxes_of_same : (Are : Graph → List QuestionClause → Type 0) (graph other : Graph)
    (clauses others : List ClauseBox) → other ≡ graph → clauses ≡ others
    → Are other (map plain_box others) → Are graph (map plain_box clauses)
boxes_of_same Are graph other clauses others same are boxes =
    subst (λ graph. Are graph (map plain_box clauses)) same
    (subst (λ clauses. Are other (map plain_box clauses)) (sym are) boxes)

-- boxes are the pieces of clauses, by each right test
abbrev pub ArePieces : Graph → List QuestionClause → List (List Question) → Type 0
ArePieces graph clauses boxes = (test : List Question → Bool) → IsTest graph test
    → boxes ≡ question_pieces test clauses

pieces_of_same : (graph : Graph) (clauses others : List QuestionClause)
    (boxes : List (List Question)) → clauses ≡ others → ArePieces graph clauses boxes
    → ArePieces graph others boxes
pieces_of_same graph clauses others boxes same made test is =
    made test is ∙ ap (λ clauses. question_pieces test clauses) same

module _ (graph : Graph) (begins : (more : Graph) × (graph ≡ built_ins ++ more))
    (sound : IsGraph graph) (question : Question) (clauses : List QuestionClause) where
  pub pair_boxes_ask : ArePairBoxes question graph clauses → AllOf (IsBoxOfGraph graph) clauses
  pair_boxes_ask are = subst (AllOf (IsBoxOfGraph graph)) (sym are.2)
      (pair_boxes_of_graph graph begins sound question are.0 are.1.0)

  pub triple_boxes_ask : AreTripleBoxes question graph clauses
      → AllOf (IsBoxOfGraph graph) clauses
  triple_boxes_ask are = subst (AllOf (IsBoxOfGraph graph)) (sym are.2)
      (triple_boxes_of_graph graph begins sound question are.0 are.1.0)

  module _ (asks : AsksNodes (length graph) question) (boxes : List (List Question))
      (made : ArePieces graph clauses boxes) where
    pub pairs_are : ArePairBoxes question graph clauses
        → (products : List (Question × Question)) → products ≡ pairs_of boxes
        → AreProducts (in_node graph) IsElement question products
    pairs_are are products same =
        subst (AreProducts (in_node graph) IsElement question) (sym same)
        (are_products graph begins sound question asks are.0 are.1 boxes
        (pieces_of_same graph clauses (pair_boxes are.0) boxes are.2 made))

    pub pairs_cover : ArePairBoxes question graph clauses
        → (products : List (Question × Question)) → products ≡ pairs_of boxes
        → CoverValues graph question products
    pairs_cover are products same = subst (CoverValues graph question) (sym same)
        (cover_values graph begins sound question asks are.0 are.1 boxes
        (pieces_of_same graph clauses (pair_boxes are.0) boxes are.2 made))

    pub triples_are : AreTripleBoxes question graph clauses
        → (triples : List (Question × Question × Question)) → triples ≡ triples_of boxes
        → AreTriples (in_node graph) IsElement question triples
    triples_are are triples same =
        subst (AreTriples (in_node graph) IsElement question) (sym same)
        (are_triples graph begins sound question asks are.0 are.1 boxes
        (pieces_of_same graph clauses (triple_boxes are.0) boxes are.2 made))

    pub triples_cover : AreTripleBoxes question graph clauses
        → (triples : List (Question × Question × Question)) → triples ≡ triples_of boxes
        → CoverTripleValues graph question triples
    triples_cover are triples same = subst (CoverTripleValues graph question) (sym same)
        (cover_triple_values graph begins sound question asks are.0 are.1 boxes
        (pieces_of_same graph clauses (triple_boxes are.0) boxes are.2 made))
