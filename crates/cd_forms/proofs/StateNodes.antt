-- The formulas that are made for states are those of the nodes of states.
use Rattle.std.proofs.Common.{◌≡◌, ◌↔◌, ◌<◌, ◌+◌, ℕ, zero, true, List, [], ◌∷◌, ◌++◌}
use Rattle.std.proofs.Common.{inl, inr, length, Some, sym, ap, subst, ◌∙◌, arith}
use Rattle.std.proofs.Common.{length-append, Bool, false}
use Rattle.std.proofs.lemmas.Option.{slice_get_within}
use Rattle.std.specs.List.{slice_get, AllZip}
use Rattle.cd_sets.specs.declared.node_id.NodeId.{NodeId}
use Rattle.cd_sets.specs.declared.question.Question.{Question}
use Rattle.cd_model.specs.AllOf.{AllOf}
use Rattle.cd_model.specs.BuiltIns.{node}
use Rattle.cd_model.specs.Formula.{Graph, Formula, IsGraph, IsFormula}
use Rattle.cd_model.specs.Formula.{in_node}
use Rattle.cd_model.specs.Formula.{asked, IsIn, formula_at}
use Rattle.cd_model.specs.Membership.{holds, reader}
use Rattle.cd_model.specs.Thing.{Thing, IsElement}
use Rattle.cd_model.proofs.BothWays.{through, turned}
use Rattle.cd_model.proofs.Extending.{kept_elements, kept_formulas}
use Rattle.cd_meaning.specs.Sets.{◌⊆◌, elements_of}
use Rattle.cd_meaning.specs.Sequences.{IsJoinOf}
use Rattle.cd_rules.specs.Family.{AsksNodes}
use Rattle.cd_model.proofs.Ones.{each_of_lists}
use Rattle.cd_model.proofs.FormulasAmongMore.{formula_among_more, are_formulas, formula_after, sound_at}
use Rattle.cd_model.proofs.ByNumber.{got_more, got_after, each_got}
use Rattle.cd_products.specs.Keeping.{IsFormulaOfQuestion}
use Rattle.cd_forms.specs.declared.of_sequences.step.Step.{Step}
use Rattle.cd_forms.specs.Inner.Asking.{asking}
use Rattle.cd_forms.specs.Inner.Joins.{IsJoin}
use Rattle.cd_forms.specs.Inner.States.{State, IsState, AreExplored}
use Rattle.cd_forms.specs.Inner.StateFormulas.{IsItemNode, IsStepFormula, when_ends}
use Rattle.cd_forms.specs.Inner.StateFormulas.{IsStateFormula, AreStateFormulas}
use Rattle.cd_forms.proofs.ByNumber.{zip_length, zip_got}
use Rattle.cd_forms.proofs.ByNumber.{zip_got_back}
use Rattle.cd_forms.proofs.JoinedNodes.{HoldsItem, IsPairs, IsStateNode, node_is_joined}
use Rattle.cd_forms.proofs.JoinedNodes.{joined_in_node}
use Rattle.cd_meaning.proofs.SequencesFollowed.{join_of_sequence, sequence_of_join}
use Rattle.cd_forms.proofs.StatesExplored.{items_ask, rests_below}

module _ (graph : Graph) (sound : IsGraph graph) (first second : NodeId)
    (below : second.0 < length graph) (questions : List Question) (states : List State)
    (explored : AreExplored graph first questions states) (batch : List Formula)
    (formulas : AreStateFormulas graph second states batch) where
  abbrev whole : Graph
  whole = graph ++ batch

  abbrev after : ℕ
  after = length graph + length states

  abbrev id : ℕ → NodeId
  id number = node (length graph + number)

  as_many : length states ≡ length formulas.made
  as_many = zip_length
      (IsStateFormula (length graph) after formulas.items (formula_at graph second)) states
      formulas.made formulas.made_for_states

  -- the formula of a state stands at its number, and that of an item after those of all states
  state_stands : (number : ℕ) (f : Formula) → slice_get formulas.made number ≡ Some f
      → formula_at whole (id number) ≡ f
  state_stands number f is = formula_after graph batch number f
      (subst (λ (all : List Formula). slice_get all number ≡ Some f) (sym formulas.whole)
      (got_more formulas.made formulas.others number f is))

  item_stands : (number : ℕ) (f : Formula) → slice_get formulas.others number ≡ Some f
      → formula_at whole (node (after + number)) ≡ f
  item_stands number f is =
      let place : after + number ≡ length graph + (length formulas.made + number) =
      omega (arith, as_many) in
      ap (λ (n : ℕ). formula_at whole (node n)) place
      ∙ formula_after graph batch (length formulas.made + number) f
      (subst (λ (all : List Formula). slice_get all (length formulas.made + number) ≡ Some f)
      (sym formulas.whole) (got_after formulas.made formulas.others number ∙ is))

  -- the node of what an item is asked holds it
  item_holds : (question : Question) (item : NodeId) → AsksNodes (length graph) question
      → IsItemNode after formulas.items question item
      → HoldsItem graph whole second questions id question item
  item_holds question item asks (inl alone) e element =
      let there = subst (AsksNodes (length graph)) alone asks in
      subst (λ (q : Question). IsIn whole e item ↔ asked (in_node graph e) q true) (sym alone)
      (through (turned (kept_elements graph batch sound e item true there.0.0))
      ((λ inside. ((inside, tt), tt)), (λ inside. inside.0.0)))
  item_holds question item asks (inr (number, there, is)) e element =
      let made = zip_got (IsFormulaOfQuestion graph) formulas.items formulas.others number question
      formulas.made_for_items there in
      subst (λ (f : Formula). holds (reader whole e) f true ↔ asked (in_node graph e) question true)
      (sym (ap (formula_at whole) is ∙ item_stands number made.0 made.1))
      (through (turned (kept_formulas graph batch sound e made.0 true made.2.sound))
      (turned (made.2.elements e element)))

  state_node : (number : ℕ) (question : Question) → slice_get questions number ≡ Some question
      → IsStateNode graph whole second questions id number question
  state_node number question there =
      let of = zip_got (IsState graph questions) questions states number question explored.done
      there in
      let made = zip_got
      (IsStateFormula (length graph) after formulas.items (formula_at graph second)) states
      formulas.made number of.0 formulas.made_for_states of.1 in
      record {
        state = of.0;
        is = of.2;
        end = formula_at graph second;
        ending = λ e element. turned (kept_formulas graph batch sound e
            (formula_at graph second) true (sound_at (length graph) graph second.0 sound below));
        members = made.2.0;
        pairs = pairs_of of.0 of.2 made.2.0 made.2.1;
        formula_is = state_stands number made.0 made.1 ∙ made.2.2;
      }
    where
      pairs_of : (state : State) → IsState graph questions question state → (members : List Formula)
          → AllZip (IsStepFormula (length graph) after formulas.items) state.steps members
          → AllZip (IsPairs graph whole second questions id) state.steps members
      pairs_of state is members all = each_pair state.steps members
          (items_ask graph questions question state is) all
        where
          each_pair : (steps : List Step) (members : List Formula)
              → AllOf (λ step. AsksNodes (length graph) step.item) steps
              → AllZip (IsStepFormula (length graph) after formulas.items) steps members
              → AllZip (IsPairs graph whole second questions id) steps members
          each_pair [] [] asks all = tt
          each_pair [] (f ∷ members) asks all = all
          each_pair (step ∷ steps) [] asks all = all
          each_pair (step ∷ steps) (f ∷ members) asks all = (
            (all.0.0, item_holds step.item all.0.0 asks.0 all.0.1, all.0.2),
            each_pair steps members asks.1 all.1,
          )

  -- The formulas are those of a graph
  abbrev count : ℕ
  count = length graph + length batch

  batch_count : length batch ≡ length states + length formulas.others
  batch_count = ap length formulas.whole ∙ length-append formulas.made formulas.others
      ∙ ap (λ (n : ℕ). n + length formulas.others) (sym as_many)

  questions_count : length questions ≡ length states
  questions_count = zip_length (IsState graph questions) questions states explored.done

  items_count : length formulas.items ≡ length formulas.others
  items_count = zip_length (IsFormulaOfQuestion graph) formulas.items formulas.others
      formulas.made_for_items

  item_below : (question : Question) (item : NodeId) → AsksNodes (length graph) question
      → IsItemNode after formulas.items question item → item.0 < count
  item_below question item asks (inl alone) =
      let there = (subst (AsksNodes (length graph)) alone asks).0.0 in omega (arith, there)
  item_below question item asks (inr (number, there, is)) =
      let within = slice_get_within formulas.items number question there in
      subst (λ (id : NodeId). id.0 < count) (sym is)
      (omega (arith, within, batch_count, items_count))

  step_sound : (step : Step) (f : Formula) → AsksNodes (length graph) step.item
      → step.rest < length questions → IsStepFormula (length graph) after formulas.items step f
      → IsFormula count f
  step_sound step f asks rest (item, of, is) =
      let first_below = item_below step.item item asks of in
      let rest_below : length graph + step.rest < count =
      omega (arith, rest, questions_count, batch_count) in
      subst (IsFormula count) (sym is) (first_below, rest_below)

  steps_sound : (steps : List Step) (members : List Formula)
      → AllOf (λ step. AsksNodes (length graph) step.item) steps
      → AllOf (λ step. step.rest < length questions) steps
      → AllZip (IsStepFormula (length graph) after formulas.items) steps members
      → AllOf (IsFormula count) members
  steps_sound steps [] asks rests all = tt
  steps_sound [] (f ∷ members) asks rests all = absurd all
  steps_sound (step ∷ steps) (f ∷ members) asks rests all = (
    step_sound step f asks.0 rests.0 all.0,
    steps_sound steps members asks.1 rests.1 all.1,
  )

  more_sound : (f : Formula) → IsFormula (length graph) f → IsFormula count f
  more_sound f = formula_among_more (length graph) count (omega arith) f

  state_sound : (question : Question) (state : State) (f : Formula)
      → IsState graph questions question state
      → IsStateFormula (length graph) after formulas.items (formula_at graph second) state f
      → IsFormula count f
  state_sound question state f is (members, all, same) = subst (IsFormula count) (sym same)
      (are_formulas count (when_ends state.ends (formula_at graph second) ++ members)
      (each_of_lists (IsFormula count) (when_ends state.ends (formula_at graph second)) members
      (end_sound state.ends)
      (steps_sound state.steps members (items_ask graph questions question state is)
      (rests_below graph questions question state is) all)))
    where
      end_sound : (ends : Bool) → AllOf (IsFormula count) (when_ends ends (formula_at graph second))
      end_sound true = (
        more_sound (formula_at graph second) (sound_at (length graph) graph second.0 sound below),
        tt,
      )
      end_sound false = tt

  pub batch_sound : AllOf (IsFormula (length graph + length batch)) batch
  batch_sound = subst (AllOf (IsFormula count)) (sym formulas.whole)
      (each_of_lists (IsFormula count) formulas.made formulas.others
      (each_got (IsFormula count) formulas.made (λ number f at.
      let of = zip_got_back
      (IsStateFormula (length graph) after formulas.items (formula_at graph second)) states
      formulas.made number f formulas.made_for_states at in
      let made_for = zip_got_back (IsState graph questions) questions states number of.0
      explored.done of.1 in
      state_sound made_for.0 of.0 f made_for.2 of.2))
      (each_got (IsFormula count) formulas.others (λ number f at.
      more_sound f (zip_got_back (IsFormulaOfQuestion graph) formulas.items formulas.others number f
      formulas.made_for_items at).2.sound)))

  -- the first node of them holds what is joined
  first_is : (made : NodeId) → made.0 ≡ length graph → made ≡ id zero
  first_is made is = λ i. record { 0 = (is ∙ first_place) i }
    where
      first_place : length graph ≡ length graph + zero
      first_place = omega arith

  joins_in : (made : NodeId) → made.0 ≡ length graph
      → IsJoinOf (elements_of graph first) (elements_of graph second) ⊆ elements_of whole made
  joins_in made is e element join =
      let of = sequence_of_join (elements_of graph first) (elements_of graph second) e join in
      subst (λ (id : NodeId). IsIn whole e id) (sym (first_is made is))
      (subst (λ (e : Thing). IsIn whole e (id zero)) (sym of.6)
      (joined_in_node graph whole second questions id state_node of.0 of.1 of.2 of.3
      (subst IsElement of.6 element) of.5 zero (asking first) explored.first ((of.4, tt), tt)))

  only_joins : (made : NodeId) → made.0 ≡ length graph
      → elements_of whole made ⊆ IsJoinOf (elements_of graph first) (elements_of graph second)
  only_joins made is e element inside =
      let of = node_is_joined graph whole second questions id state_node e element zero
      (asking first) explored.first
      (subst (λ (id : NodeId). IsIn whole e id) (first_is made is) inside) in
      subst (IsJoinOf (elements_of graph first) (elements_of graph second)) (sym of.6)
      (join_of_sequence (elements_of graph first) (elements_of graph second) of.0 of.1 of.2 of.3
      of.4.0.0 of.5)

  -- it is a node of the longer graph
  pub first_below : (made : NodeId) → made.0 ≡ length graph → made.0 < length whole
  first_below made is =
      let some = slice_get_within questions zero (asking first) explored.first in
      let all = length-append graph batch in
      omega (arith, is, some, all, batch_count, questions_count)

  pub join_of : (made : NodeId) → made.0 ≡ length graph → IsJoin graph whole first second made
  join_of made is = record { has = joins_in made is; only = only_joins made is }
