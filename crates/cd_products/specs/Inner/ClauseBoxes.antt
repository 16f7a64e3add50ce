-- The boxes of the clauses of a question: of clauses of pairs, and of XML things.
use Rattle.std.specs.Prelude.{◌≡◌, ◌⊎◌, List, [], ◌∷◌, ◌++◌, map}
use Rattle.cd_sets.specs.declared.node_id.NodeId.{NodeId}
use Rattle.cd_sets.specs.declared.question.Question.{Question}
use Rattle.cd_model.specs.AllOf.{AllOf, AnyOf}
use Rattle.cd_model.specs.Formula.{Graph}
use Rattle.cd_rules.specs.BasicSets.{IsBasic}
use Rattle.cd_rules.specs.Clauses.{Clause, Pair, Triple, Pairs, Xmls, IsClauseOfQuestion}
use Rattle.cd_rules.specs.Needs.{pair_way, xml_way}
use Rattle.cd_products.specs.QuestionBoxes.{QuestionClause}

-- all clauses of a question but those of integers, of characters and of atoms
abbrev pub AreClauses : Graph → Question → List Clause → Type 0
AreClauses graph question all = AllOf (IsClauseOfQuestion graph question) all
    × ((is : Clause) → IsClauseOfQuestion graph question is
    → IsBasic is ⊎ AnyOf (λ clause. clause ≡ is) all)

-- the questions of the parts by the wanted formulas, and the refused ones as rows
abbrev pub pair_row : Pair → List NodeId
pair_row parts = parts.0 ∷ parts.1 ∷ []

abbrev pub pair_box : (wanted refused : List Pair) → QuestionClause
pair_box wanted refused = record { box = pair_way wanted ([], []); refused = map pair_row refused }

abbrev pub triple_row : Triple → List NodeId
triple_row parts = parts.0 ∷ parts.1 ∷ parts.2 ∷ []

abbrev pub triple_box : (wanted refused : List Triple) → QuestionClause
triple_box wanted refused =
    record { box = xml_way wanted ([], [], []); refused = map triple_row refused }

-- of a clause of pairs
abbrev pub pair_box_of : Clause → List QuestionClause
pair_box_of (Pairs wanted refused) = pair_box wanted refused ∷ []
pair_box_of clause = []

abbrev pub pair_boxes : List Clause → List QuestionClause
pair_boxes [] = []
pair_boxes (clause ∷ clauses) = pair_box_of clause ++ pair_boxes clauses

-- and of XML things
abbrev pub triple_box_of : Clause → List QuestionClause
triple_box_of (Xmls wanted refused) = triple_box wanted refused ∷ []
triple_box_of clause = []

abbrev pub triple_boxes : List Clause → List QuestionClause
triple_boxes [] = []
triple_boxes (clause ∷ clauses) = triple_box_of clause ++ triple_boxes clauses
