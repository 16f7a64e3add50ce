-- The formula of a question answers as the question does, whatever is asked, and is sound where the graph is.
use Rattle.std.proofs.Common.{◌≡◌, ℕ, zero, suc, Bool, true, false, ◌↔◌, ◌⊎◌, inl, inr, List, [], ◌∷◌, ◌++◌, length}
use Rattle.std.specs.List.{slice_get}
use Rattle.std.specs.Option.{unwrap_or}
use Rattle.cd_sets.specs.declared.node_id.NodeId.{NodeId}
use Rattle.cd_sets.specs.declared.question.Question.{Question}
use Rattle.cd_model.specs.AllOf.{AllOf, AnyOf}
use Rattle.cd_model.specs.Formula.{formulas_of, Graph, Formula, Nothing, IsFormula, AreFormulas, IsGraph}
use Rattle.cd_model.specs.Membership.{Reader, holds, each_holds, one_holds, at_nodes, asked}
use Rattle.cd_graph.specs.Inner.Questions.{inside, outside, question_formula}

module _ (graph : Graph) (reader : Reader) where
  -- it is in each node of `pos` and in none of `neg`
  abbrev Is : NodeId → Type 0
  Is id = at_nodes graph reader id true

  abbrev IsNot : NodeId → Type 0
  IsNot id = at_nodes graph reader id false

  abbrev all_of : List NodeId → List NodeId → Bool → Type 0
  all_of pos neg answer = each_holds reader (formulas_of (inside graph pos ++ outside graph neg)) answer

  abbrev one_in : List NodeId → List NodeId → Bool → Type 0
  one_in pos neg answer = one_holds reader (formulas_of (inside graph pos ++ outside graph neg)) answer

  to_all : (pos neg : List NodeId) → AllOf Is pos → AllOf IsNot neg → all_of pos neg true
  to_all [] [] are are_not = tt
  to_all [] (id ∷ ids) are are_not = (are_not.0, to_all [] ids are are_not.1)
  to_all (id ∷ ids) neg are are_not = (are.0, to_all ids neg are.1 are_not)

  from_all : (pos neg : List NodeId) → all_of pos neg true → AllOf Is pos × AllOf IsNot neg
  from_all [] [] all = (tt, tt)
  from_all [] (id ∷ ids) all = (tt, (all.0, (from_all [] ids all.1).1))
  from_all (id ∷ ids) neg all = let rest = from_all ids neg all.1 in ((all.0, rest.0), rest.1)

  -- or it is outside one of `pos`, or in one of `neg`
  to_one_of_neg : (neg : List NodeId) → AnyOf Is neg → one_in [] neg false
  to_one_of_neg [] one = one
  to_one_of_neg (id ∷ ids) (inl here) = inl here
  to_one_of_neg (id ∷ ids) (inr later) = inr (to_one_of_neg ids later)

  to_one : (pos neg : List NodeId) → AnyOf IsNot pos ⊎ AnyOf Is neg → one_in pos neg false
  to_one [] neg (inl one) = absurd one
  to_one [] neg (inr one) = to_one_of_neg neg one
  to_one (id ∷ ids) neg (inl (inl here)) = inl here
  to_one (id ∷ ids) neg (inl (inr later)) = inr (to_one ids neg (inl later))
  to_one (id ∷ ids) neg (inr one) = inr (to_one ids neg (inr one))

  from_one_of_neg : (neg : List NodeId) → one_in [] neg false → AnyOf Is neg
  from_one_of_neg [] one = one
  from_one_of_neg (id ∷ ids) (inl here) = inl here
  from_one_of_neg (id ∷ ids) (inr later) = inr (from_one_of_neg ids later)

  further : (id : NodeId) (ids neg : List NodeId) → AnyOf IsNot ids ⊎ AnyOf Is neg → AnyOf IsNot (id ∷ ids) ⊎ AnyOf Is neg
  further id ids neg (inl one) = inl (inr one)
  further id ids neg (inr one) = inr one

  from_one : (pos neg : List NodeId) → one_in pos neg false → AnyOf IsNot pos ⊎ AnyOf Is neg
  from_one [] neg one = inr (from_one_of_neg neg one)
  from_one (id ∷ ids) neg (inl here) = inl (inl here)
  from_one (id ∷ ids) neg (inr later) = further id ids neg (from_one ids neg later)

  answers_so : (question : Question) (answer : Bool)
      → asked (at_nodes graph reader) question answer ↔ holds reader (question_formula graph question) answer
  answers_so question true =
      (λ asked. to_all question.pos question.neg asked.0 asked.1, from_all question.pos question.neg)
  answers_so question false = (to_one question.pos question.neg, from_one question.pos question.neg)

-- the formula of each node is sound
node_is_sound : (nodes : ℕ) (graph : Graph) (place : ℕ) → AllOf (IsFormula nodes) graph
    → IsFormula nodes (unwrap_or (slice_get graph place) Nothing)
node_is_sound nodes [] place each = tt
node_is_sound nodes (is ∷ graph) zero each = each.0
node_is_sound nodes (is ∷ graph) (suc place) each = node_is_sound nodes graph place each.1

parts_are_sound : (nodes : ℕ) (graph : Graph) (pos neg : List NodeId) → AllOf (IsFormula nodes) graph
    → AreFormulas nodes (formulas_of (inside graph pos ++ outside graph neg))
parts_are_sound nodes graph [] [] each = tt
parts_are_sound nodes graph [] (id ∷ ids) each =
    (node_is_sound nodes graph id.0 each, parts_are_sound nodes graph [] ids each)
parts_are_sound nodes graph (id ∷ ids) neg each =
    (node_is_sound nodes graph id.0 each, parts_are_sound nodes graph ids neg each)

-- what is the formula of a question answers so, and is sound
pub formula_answers : (graph : Graph) (reader : Reader) (question : Question) (is : Formula) → is ≡ question_formula graph question
    → (answer : Bool) → asked (at_nodes graph reader) question answer ↔ holds reader is answer
formula_answers graph reader question is same answer = rw same (answers_so graph reader question answer)

pub formula_is_sound : (graph : Graph) (question : Question) (is : Formula) → is ≡ question_formula graph question
    → IsGraph graph → IsFormula (length graph) is
formula_is_sound graph question is same sound =
    rw same (parts_are_sound (length graph) graph question.pos question.neg sound)
