-- Boxes whose cells are questions, and rows of nodes.
use Rattle.std.specs.Prelude.{◌≡◌, ◌⊎◌, ◌↔◌, Bool, true, false, List, [], ◌∷◌}
use Rattle.cd_sets.specs.declared.node_id.NodeId.{NodeId}
use Rattle.cd_sets.specs.declared.question.Question.{Question}
use Rattle.cd_model.specs.AllOf.{AllOf, AnyOf}
use Rattle.cd_model.specs.Formula.{asked}
use Rattle.cd_model.specs.Thing.{Thing, Pair, Xml}
use Rattle.cd_model.specs.Types.{Answers}
use Rattle.cd_rules.specs.Needs.{with_id}
use Rattle.cd_products.specs.Boxes.{Clause, pieces, pieces_of}
use Rattle.cd_products.specs.InBoxes.{InBox, InClause, InOneAtMost}

-- what of a question is in a node too, and what is outside it
abbrev pub within_node : NodeId → Question → Question
within_node id question = record { pos = with_id id question.pos; neg = question.neg }

abbrev pub without_node : NodeId → Question → Question
without_node id question = record { pos = question.pos; neg = with_id id question.neg }

abbrev pub QuestionClause : Type 0
QuestionClause = Clause Question NodeId

-- the pieces of a clause, and of several
abbrev pub question_pieces_of : (List Question → Bool) → QuestionClause → List (List Question)
question_pieces_of = pieces_of Question NodeId within_node without_node

abbrev pub question_pieces : (List Question → Bool) → List QuestionClause → List (List Question)
question_pieces = pieces Question NodeId within_node without_node

-- those of two cells, and of three
abbrev pub pairs_of : List (List Question) → List (Question × Question)
pairs_of [] = []
pairs_of ((a ∷ b ∷ []) ∷ boxes) = (a, b) ∷ pairs_of boxes
pairs_of (box ∷ boxes) = pairs_of boxes

abbrev pub triples_of : List (List Question) → List (Question × Question × Question)
triples_of [] = []
triples_of ((a ∷ b ∷ c ∷ []) ∷ boxes) = (a, b, c) ∷ triples_of boxes
triples_of (box ∷ boxes) = triples_of boxes

-- things, by what they answer
module _ (answers : Thing → Answers NodeId) where
  abbrev pub InQuestion : Thing → Question → Type 0
  InQuestion d question = asked (answers d) question true

  abbrev pub InQuestions : List Thing → List Question → Type 0
  InQuestions = InBox Thing Question NodeId InQuestion answers

  abbrev pub InOneQuestionsAtMost : List Thing → List (List Question) → Type 0
  InOneQuestionsAtMost = InOneAtMost Thing Question NodeId InQuestion answers

  abbrev pub InClauses : List QuestionClause → List Thing → Type 0
  InClauses clauses things =
      AnyOf (InClause Thing Question NodeId InQuestion answers things) clauses

  -- and by their sort
  module _ (Sort : Thing → Type 0) where
    abbrev pub AreDecided : Type 0
    AreDecided = (d : Thing) (id : NodeId) → Sort d → answers d id true ⊎ answers d id false

    abbrev pub IsInhabited : Question → Type 0
    IsInhabited question = (d : Thing) × Sort d × InQuestion d question

    -- where the test of a box is false, no things of the sort are in the box
    abbrev pub DropsEmpty : (List Question → Bool) → Type 0
    DropsEmpty inhabited = (box : List Question) (things : List Thing) → inhabited box ≡ false
        → AllOf Sort things → InQuestions things box → ⊥

    -- where it is true, each question of the box has a thing of the sort
    abbrev pub KeepsInhabited : (List Question → Bool) → Type 0
    KeepsInhabited inhabited = (box : List Question) → inhabited box ≡ true → AllOf IsInhabited box

    -- the pairs of a question are those in the clauses
    abbrev pub ArePairClauses : Question → List QuestionClause → Type 0
    ArePairClauses question clauses = (first second : Thing) → Sort (Pair first second)
        → InQuestion (Pair first second) question ↔ InClauses clauses (first ∷ second ∷ [])

    -- the XML things of a question are in the clauses
    abbrev pub CoverXml : Question → List QuestionClause → Type 0
    CoverXml question clauses = (tag attributes content : Thing) → Sort (Xml tag attributes content)
        → InQuestion (Xml tag attributes content) question
        → InClauses clauses (tag ∷ attributes ∷ content ∷ [])

    -- and what is in the clauses makes an XML thing of the question
    abbrev pub MakeXml : Question → List QuestionClause → Type 0
    MakeXml question clauses = (tag attributes content : Thing) → Sort tag → Sort attributes
        → Sort content → InClauses clauses (tag ∷ attributes ∷ content ∷ [])
        → Sort (Xml tag attributes content) × InQuestion (Xml tag attributes content) question
