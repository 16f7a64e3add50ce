-- Formulas of steps and of states, one after another, while questions get their nodes.
use Rattle.std.proofs.Common.{◌≡◌, ◌<◌, ◌+◌, ◌⊎◌, inl, inr, ℕ, List, [], ◌∷◌, ◌++◌, map, take}
use Rattle.std.proofs.Common.{length}
use Rattle.std.proofs.Common.{get_or, sym, ap, subst, ◌∙◌}
use Rattle.std.proofs.lemmas.List.{take_more, map_more, map_push}
use Rattle.std.specs.List.{AllZip}
use Rattle.cd_sets.specs.declared.node_id.NodeId.{NodeId}
use Rattle.cd_sets.specs.declared.question.Question.{Question}
use Rattle.cd_model.specs.AllOf.{AllOf}
use Rattle.cd_model.specs.BuiltIns.{node}
use Rattle.cd_model.specs.Formula.{Formula, Pair}
use Rattle.cd_model.proofs.ByNumber.{zip_pushed, zip_weaker}
use Rattle.cd_graph.specs.PlainFormula.{plain}
use Rattle.cd_graph.specs.declared.formula.Formula.{Formula as CodeFormula}
use Rattle.cd_rules.specs.Family.{AsksNodes}
use Rattle.cd_forms.specs.declared.of_sequences.state.State.{State as CodeState}
use Rattle.cd_forms.specs.declared.of_sequences.step.Step.{Step}
use Rattle.cd_forms.specs.Inner.Numbered.{GrowTo}
use Rattle.cd_forms.specs.Inner.StateFormulas.{StepsAsk, StatesAsk, IsItemNode, IsStepFormula}
use Rattle.cd_forms.specs.Inner.StateFormulas.{IsStateFormula}
use Rattle.cd_forms.specs.Inner.States.{State, plain_state}
use Rattle.cd_forms.proofs.ByNumber.{all_pushed, all_before}
use Rattle.cd_forms.proofs.StatesExplored.{grown_there, grow_not}

-- a question that is added, and the others, ask nodes
pub asks_added : (count : ℕ) (old new : List Question) (question : Question)
    → (new ≡ old) ⊎ (new ≡ old ++ question ∷ []) → AsksNodes count question
    → AllOf (AsksNodes count) old → AllOf (AsksNodes count) new
asks_added count old new question (inl same) asks all =
    subst (AllOf (AsksNodes count)) (sym same) all
asks_added count old new question (inr one) asks all = subst (AllOf (AsksNodes count)) (sym one)
    (all_pushed (AsksNodes count) old question all asks)

pub grow_by_one : (old new : List Question) (question : Question)
    → (new ≡ old) ⊎ (new ≡ old ++ question ∷ []) → GrowTo old new
grow_by_one old new question (inl same) =
    subst (GrowTo old) (sym same) (grow_not old)
grow_by_one old new question (inr one) = (question ∷ [], one)

module _ (first after : ℕ) (old new : List Question) (grow : GrowTo old new) where
  item_still : (question : Question) (id : NodeId) → IsItemNode after old question id
      → IsItemNode after new question id
  item_still question id (inl alone) = inl alone
  item_still question id (inr (number, there, is)) =
      inr (number, grown_there old new number question grow there, is)

  step_still : (step : Step) (f : Formula) → IsStepFormula first after old step f
      → IsStepFormula first after new step f
  step_still step f (id, of, is) = (id, item_still step.item id of, is)

  state_still : (end : Formula) (state : State) (f : Formula)
      → IsStateFormula first after old end state f → IsStateFormula first after new end state f
  state_still end state f (members, all, is) = (
    members,
    zip_weaker (IsStepFormula first after old) (IsStepFormula first after new) step_still
        state.steps members all,
    is,
  )

  pub steps_more : (steps : List Step) (i : ℕ) (step : Step) (members more : List CodeFormula)
      (f : CodeFormula) (item rest : NodeId) → i < length steps → step ≡ get_or steps i step
      → AllZip (IsStepFormula first after old) (take i steps) (map plain members)
      → IsItemNode after new step.item item → rest ≡ node (first + step.rest)
      → plain f ≡ Pair item rest → more ≡ members ++ f ∷ []
      → AllZip (IsStepFormula first after new) (take (i + 1) steps) (map plain more)
  steps_more steps i step members more f item rest below is all of place made put =
      subst (λ (fs : List CodeFormula).
      AllZip (IsStepFormula first after new) (take (i + 1) steps) (map plain fs)) (sym put)
      (subst (λ (fs : List Formula).
      AllZip (IsStepFormula first after new) (take (i + 1) steps) fs)
      (sym (map_push plain members f))
      (subst (λ (some : List Step).
      AllZip (IsStepFormula first after new) some (map plain members ++ plain f ∷ []))
      (sym (take_more steps i step below ∙ ap (λ one. take i steps ++ one ∷ []) (sym is)))
      (zip_pushed (IsStepFormula first after new) (take i steps) (map plain members) step (plain f)
      (zip_weaker (IsStepFormula first after old) (IsStepFormula first after new) step_still
      (take i steps) (map plain members) all)
      (item, of, made ∙ ap (Pair item) place))))

  pub states_more : (end : Formula) (states : List CodeState) (i : ℕ) (state : CodeState)
      (made more : List CodeFormula) (f : CodeFormula) → i < length states
      → state ≡ get_or states i state
      → AllZip (IsStateFormula first after old end) (map plain_state (take i states))
      (map plain made) → IsStateFormula first after new end (plain_state state) (plain f)
      → more ≡ made ++ f ∷ []
      → AllZip (IsStateFormula first after new end) (map plain_state (take (i + 1) states))
      (map plain more)
  states_more end states i state made more f below is all of put =
      subst (λ (fs : List CodeFormula). AllZip (IsStateFormula first after new end)
      (map plain_state (take (i + 1) states)) (map plain fs)) (sym put)
      (subst (λ (fs : List Formula). AllZip (IsStateFormula first after new end)
      (map plain_state (take (i + 1) states)) fs) (sym (map_push plain made f))
      (subst (λ (some : List State).
      AllZip (IsStateFormula first after new end) some (map plain made ++ plain f ∷ []))
      (sym (map_more plain_state states i state below
      ∙ ap (λ one. map plain_state (take i states) ++ plain_state one ∷ []) (sym is)))
      (zip_pushed (IsStateFormula first after new end) (map plain_state (take i states))
      (map plain made) (plain_state state) (plain f)
      (zip_weaker (IsStateFormula first after old end) (IsStateFormula first after new end)
      (state_still end) (map plain_state (take i states)) (map plain made) all) of)))

-- what is added asks nodes where the steps do
module _ (count : ℕ) (before old new : List Question) where
  pub steps_ask : (steps : List Step) (i : ℕ) (step : Step) → i < length steps
      → step ≡ get_or steps i step
      → (StepsAsk count (take i steps) → AllOf (AsksNodes count) before
      → AllOf (AsksNodes count) old)
      → (AsksNodes count step.item → AllOf (AsksNodes count) old → AllOf (AsksNodes count) new)
      → StepsAsk count (take (i + 1) steps) → AllOf (AsksNodes count) before
      → AllOf (AsksNodes count) new
  steps_ask steps i step below is so_far one asks all =
      let parts = all_before (λ (step : Step). AsksNodes count step.item) (take i steps) step
      (subst (StepsAsk count)
      (take_more steps i step below ∙ ap (λ one. take i steps ++ one ∷ []) (sym is)) asks) in
      one parts.1 (so_far parts.0 all)

  pub states_ask : (states : List CodeState) (i : ℕ) (state : CodeState) → i < length states
      → state ≡ get_or states i state
      → (StatesAsk count (map plain_state (take i states)) → AllOf (AsksNodes count) before
      → AllOf (AsksNodes count) old)
      → (StepsAsk count (plain_state state).steps → AllOf (AsksNodes count) old
      → AllOf (AsksNodes count) new)
      → StatesAsk count (map plain_state (take (i + 1) states)) → AllOf (AsksNodes count) before
      → AllOf (AsksNodes count) new
  states_ask states i state below is so_far one asks all =
      let parts = all_before (λ (state : State). StepsAsk count state.steps)
      (map plain_state (take i states)) (plain_state state)
      (subst (StatesAsk count) (map_more plain_state states i state below
      ∙ ap (λ one. map plain_state (take i states) ++ plain_state one ∷ []) (sym is)) asks) in
      one parts.1 (so_far parts.0 all)
