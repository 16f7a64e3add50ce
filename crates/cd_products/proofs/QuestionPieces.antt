-- The pieces of clauses of questions are exact, of things of a sort whose answers are decided.
use Rattle.std.proofs.Common.{◌≡◌, ◌↔◌, Bool, true, false, List}
use Rattle.cd_sets.specs.declared.node_id.NodeId.{NodeId}
use Rattle.cd_sets.specs.declared.question.Question.{Question}
use Rattle.cd_model.specs.AllOf.{AllOf, AnyOf}
use Rattle.cd_model.specs.Thing.{Thing}
use Rattle.cd_model.specs.Types.{Answers}
use Rattle.cd_products.specs.QuestionBoxes.{within_node, without_node, QuestionClause}
use Rattle.cd_products.specs.QuestionBoxes.{question_pieces_of, question_pieces, InQuestion}
use Rattle.cd_products.specs.QuestionBoxes.{InQuestions, InOneQuestionsAtMost, InClauses}
use Rattle.cd_products.specs.QuestionBoxes.{AreDecided, DropsEmpty}
use Rattle.cd_products.proofs.OneMore.{each_with, each_without}
use Rattle.cd_products.proofs.Pieces.{pieces_only, pieces_inhabited, pieces_cover, pieces_once}

module _ (answers : Thing → Answers NodeId) (Sort : Thing → Type 0)
    (inhabited : List Question → Bool) where
  abbrev InIt : Thing → Question → Type 0
  InIt = InQuestion answers

  abbrev InBoxes : List Thing → List (List Question) → Type 0
  InBoxes things = AnyOf (InQuestions answers things)

  within_is : (d : Thing) (id : NodeId) (question : Question)
      → InIt d (within_node id question) ↔ (InIt d question × answers d id true)
  within_is d id question = (
    λ h. let both = each_without (λ id. answers d id true) id question.pos h.0 in
        ((both.1, h.1), both.0),
    λ h. (each_with (λ id. answers d id true) id question.pos h.1 h.0.0, h.0.1),
  )

  without_is : (d : Thing) (id : NodeId) (question : Question)
      → InIt d (without_node id question) ↔ (InIt d question × answers d id false)
  without_is d id question = (
    λ h. let both = each_without (λ id. answers d id false) id question.neg h.1 in
        ((h.0, both.1), both.0),
    λ h. (h.0.0, each_with (λ id. answers d id false) id question.neg h.1 h.0.1),
  )

  pub only : (things : List Thing) (clauses : List QuestionClause)
      → InBoxes things (question_pieces inhabited clauses)
      → InClauses answers clauses things
  only = pieces_only Thing Question NodeId Sort InIt answers within_node without_node inhabited
      within_is without_is

  pub are_inhabited : (clauses : List QuestionClause)
      → AllOf (λ box. inhabited box ≡ true) (question_pieces inhabited clauses)
  are_inhabited = pieces_inhabited Thing Question NodeId Sort InIt answers within_node without_node
      inhabited within_is without_is

  pub cover : AreDecided answers Sort → DropsEmpty answers Sort inhabited → (things : List Thing)
      → AllOf Sort things → (clauses : List QuestionClause)
      → InClauses answers clauses things
      → InBoxes things (question_pieces inhabited clauses)
  cover = pieces_cover Thing Question NodeId Sort InIt answers within_node without_node inhabited
      within_is without_is

  pub once : ((d : Thing) (id : NodeId) → answers d id true → answers d id false → ⊥)
      → (things : List Thing) (clause : QuestionClause)
      → InOneQuestionsAtMost answers things (question_pieces_of inhabited clause)
  once = pieces_once Thing Question NodeId Sort InIt answers within_node without_node inhabited
      within_is without_is
