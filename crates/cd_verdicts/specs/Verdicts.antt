-- Questions with their verdicts.
use Rattle.std.specs.Prelude.{ℕ, ◌≡◌, ◌++◌, true, List, [], ◌∷◌, map}
use Rattle.cd_sets.specs.declared.node_id.NodeId.{NodeId}
use Rattle.cd_sets.specs.declared.question.Question.{Question}
use Rattle.cd_model.specs.Thing.{Thing, IsElement, IsValue}
use Rattle.cd_model.specs.AllOf.{AnyOf}
use Rattle.cd_model.specs.Formula.{Graph, IsGraph}
use Rattle.cd_model.specs.Membership.{asked, answers, value_answers}
use Rattle.cd_model.specs.Interfaces.{Interfaces, ArrowOf, OfNodes}
use Rattle.cd_elements.specs.Table.{Names, element_at}
use Rattle.cd_verdicts.specs.declared.verdict.Verdict.{Verdict}
use Rattle.cd_verdicts.specs.declared.verdict.Verdict.TheVariants.{Empty, Inhabited}

-- no element is in a question
abbrev pub HasNoElement : Graph → Question → Type 0
HasNoElement graph question = (is : Thing) → IsElement is → asked (answers graph is) question true
    → ⊥

-- no value is in a question, in any graph that begins with this one, under any interfaces
abbrev pub HasNoValue : Graph → Question → Type 0
HasNoValue graph question = (more : Graph) (interfaces : Interfaces) (v : Thing) → IsValue v
    → asked (value_answers (graph ++ more) interfaces v) question true → ⊥

-- Each value of the one node is in the other, in each sound graph that begins with this one, where
-- the arrows of functions are nodes of that graph
abbrev pub AreWithin : Graph → (one other : NodeId) → Type 0
AreWithin graph one other = (more : Graph) (arrows : ℕ → List (ArrowOf NodeId)) (v : Thing)
    → IsGraph (graph ++ more) → IsValue v
    → value_answers (graph ++ more) (OfNodes (graph ++ more) arrows) v one true
    → value_answers (graph ++ more) (OfNodes (graph ++ more) arrows) v other true

-- a verdict is exact: the question has no element, or it has this one of the table
abbrev pub IsExact : Graph → List Thing → Question → Verdict → Type 0
IsExact graph table question Empty = HasNoElement graph question × HasNoValue graph question
IsExact graph table question (Inhabited id) =
    Names table id × IsElement (element_at table id)
    × asked (answers graph (element_at table id)) question true

-- a verdict is kept for a question
abbrev pub IsKept : List (Question × Verdict) → Question → Verdict → Type 0
IsKept kept question verdict = AnyOf (λ one. one ≡ (question, verdict)) kept

-- the questions that have no element
abbrev pub family : List (Question × Verdict) → List Question
family [] = []
family ((question, Empty) ∷ kept) = question ∷ family kept
family ((question, Inhabited id) ∷ kept) = family kept

-- questions that have no element, with this verdict
abbrev pub without_elements : List Question → List (Question × Verdict)
without_elements questions = map (λ question. (question, Empty)) questions
