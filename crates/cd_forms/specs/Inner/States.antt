-- States: what is known of the things of a question as sequences.
use Rattle.std.specs.Prelude.{◌≡◌, ◌++◌, ℕ, zero, Bool, true, List, length, Some}
use Rattle.std.specs.List.{slice_get, AllZip}
use Rattle.cd_sets.specs.declared.node_id.NodeId.{NodeId}
use Rattle.cd_sets.specs.declared.question.Question.{Question}
use Rattle.cd_model.specs.AllOf.{AllOf}
use Rattle.cd_model.specs.Formula.{Graph, in_node, asked, IsIn}
use Rattle.cd_model.specs.Thing.{Thing, IsElement}
use Rattle.cd_matching.specs.Sequences.{sequence_of}
use Rattle.cd_rules.specs.Family.{AsksNodes}
use Rattle.cd_products.specs.Products.{AreProducts, ProductsAsk}
use Rattle.cd_forms.specs.declared.of_sequences.state.State.{State as CodeState}
use Rattle.cd_forms.specs.declared.of_sequences.step.Step.{Step}
use Rattle.cd_forms.specs.Inner.Asking.{asking, HasNil}
use Rattle.cd_forms.specs.Inner.Numbered.{IsStepOf, AreNumbered}

-- whether the empty sequence is in the question, and the steps of the pairs in it
pub record State : Type 0 where
  pub ends : Bool
  pub steps : List Step

abbrev pub plain_state : CodeState → State
plain_state state = record { ends = state.ends; steps = state.steps.items }

module _ (graph : Graph) where
  -- the products of the pairs of a question, of nodes of the graph
  abbrev pub AreSound : Question → List (Question × Question) → Type 0
  AreSound question products = AreProducts (in_node graph) IsElement question products
      × ProductsAsk (length graph) products

  -- a state, where questions stand under numbers
  pub record IsState (questions : List Question) (question : Question) (state : State) : Type 0
    where
      pub end : HasNil graph question state.ends
      pub products : List (Question × Question)
      pub sound : AreSound question products
      pub numbered : AllZip (IsStepOf questions) state.steps products

  -- the same, where it has numbered the questions of its rests
  pub record IsStateAfter (old new : List Question) (question : Question) (state : State) : Type 0
    where
      pub end : HasNil graph question state.ends
      pub products : List (Question × Question)
      pub sound : AreSound question products
      pub numbered : AreNumbered old new state.steps products

  module _ (start : NodeId) where
    -- each sequence in the question is what is left of one in the first node
    abbrev pub AreRests : Question → Type 0
    AreRests question = (ds : List Thing) → IsElement (sequence_of ds)
        → asked (in_node graph (sequence_of ds)) question true
        → (before : List Thing) × IsElement (sequence_of (before ++ ds))
        × IsIn graph (sequence_of (before ++ ds)) start

    abbrev pub IsReached : Question → Type 0
    IsReached question = AsksNodes (length graph) question × AreRests question

    -- the first questions have states
    pub record AreExploring (questions : List Question) (states : List State) : Type 0 where
      pub first : slice_get questions zero ≡ Some (asking start)
      pub reached : AllOf IsReached questions
      pub done : (number : ℕ) (state : State) → slice_get states number ≡ Some state
          → (question : Question) × (slice_get questions number ≡ Some question)
          × IsState questions question state

    -- all questions have states
    pub record AreExplored (questions : List Question) (states : List State) : Type 0 where
      pub first : slice_get questions zero ≡ Some (asking start)
      pub reached : AllOf IsReached questions
      pub done : AllZip (IsState questions) questions states
