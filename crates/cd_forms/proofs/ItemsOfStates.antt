-- What items of sequences are asked: the first questions of steps to states from which the end is
-- reached.
use Rattle.std.proofs.Common.{◌≡◌, ◌<◌, ℕ, zero, suc, Bool, true, false, List, [], ◌∷◌, ◌++◌}
use Rattle.std.proofs.Common.{◌⊎◌}
use Rattle.std.proofs.Common.{inl, inr, length, Option, Some, None, refl, sym, ap, subst, ◌∙◌}
use Rattle.std.proofs.Common.{true≢false, if◌then◌else◌}
use Rattle.std.proofs.lemmas.Option.{none-some, same_Some}
use Rattle.std.specs.List.{slice_get}
use Rattle.std.specs.Option.{unwrap_or}
use Rattle.cd_sets.specs.declared.node_id.NodeId.{NodeId}
use Rattle.cd_sets.specs.declared.question.Question.{Question}
use Rattle.cd_model.specs.AllOf.{AllOf, AnyOf}
use Rattle.cd_model.specs.Formula.{Graph, in_node, asked}
use Rattle.cd_model.specs.Thing.{Thing, IsElement}
use Rattle.cd_matching.specs.Sequences.{sequence_of}
use Rattle.cd_matching.proofs.NilIsElement.{nil_is_element}
use Rattle.cd_meaning.specs.Sets.{elements_of}
use Rattle.cd_meaning.specs.Sequences.{IsItemOf}
use Rattle.cd_rules.specs.Family.{AsksNodes, AreAmong}
use Rattle.cd_model.proofs.Ones.{picked, one_on_left, one_on_right, one_on_a_side, each_of_lists}
use Rattle.cd_model.proofs.ByNumber.{all_got, each_got, got_some}
use Rattle.cd_products.specs.QuestionBoxes.{IsInhabited}
use Rattle.cd_forms.specs.declared.of_sequences.step.Step.{Step}
use Rattle.cd_forms.specs.Inner.Asking.{asking}
use Rattle.cd_forms.specs.Inner.Ending.{Ends, ends_here, goes_on, AreMarked}
use Rattle.cd_forms.specs.Inner.ItemQuestions.{is_marked, items_of_steps, items_of_states}
use Rattle.cd_forms.specs.Inner.ItemQuestions.{AreItems}
use Rattle.cd_forms.specs.Inner.Numbered.{IsAmong}
use Rattle.cd_forms.specs.Inner.States.{State, IsState, AreExplored, IsReached}
use Rattle.cd_forms.proofs.ByNumber.{all_among, any_among, zip_got}
use Rattle.cd_forms.proofs.ByNumber.{zip_got_back}
use Rattle.cd_meaning.proofs.SequencesFollowed.{item_of_sequence, sequence_of_item}
use Rattle.cd_forms.proofs.StatesExplored.{GoesBy, pair_goes, goes_pair, items_ask, items_live}
use Rattle.cd_forms.proofs.StatesExplored.{rests_below}

-- what one of some has, one of others among which they are has
any_still : {X : Type 0} (fact : X → Type 0) (some all : List X) → AreAmong some all
    → AnyOf fact some → AnyOf fact all
any_still fact [] all among any = absurd any
any_still fact (x ∷ some) all among (inl here) = any_among fact all x among.0 here
any_still fact (x ∷ some) all among (inr later) = any_still fact some all among.1 later

all_still : {X : Type 0} (fact : X → Type 0) (some all : List X) → AreAmong some all
    → AllOf fact all → AllOf fact some
all_still fact [] all among each = tt
all_still fact (x ∷ some) all among each =
    (all_among fact all x each among.0, all_still fact some all among.1 each)

-- a mark is read
mark_of : (mark : Option Bool) → unwrap_or mark false ≡ true → mark ≡ Some true
mark_of None is = absurd (true≢false (sym is))
mark_of (Some mark) is = ap Some is

pub mark_read : (marks : List Bool) (number : ℕ) → is_marked marks number ≡ true
    → slice_get marks number ≡ Some true
mark_read marks number is = mark_of (slice_get marks number) is

pub read_mark : (marks : List Bool) (number : ℕ) → slice_get marks number ≡ Some true
    → is_marked marks number ≡ true
read_mark marks number is = ap (λ mark. unwrap_or mark false) is

module _ (marks : List Bool) (fact : Question → Type 0) where
  -- a step to a marked state, whose item is asked what has the fact
  pub record HasStep (states : List State) : Type 0 where
    pub number : ℕ
    pub state : State
    pub step : Step
    pub at : slice_get states number ≡ Some state
    pub among : IsAmong state.steps step
    pub mark : is_marked marks step.rest ≡ true
    pub has : fact step.item

  into_steps : (steps : List Step) (step : Step) → IsAmong steps step
      → is_marked marks step.rest ≡ true → fact step.item → AnyOf fact (items_of_steps marks steps)
  into_steps [] step among mark has = absurd among
  into_steps (one ∷ steps) step (inl same) mark has =
      by_mark (subst (λ (step : Step). is_marked marks step.rest ≡ true) (sym same) mark)
    where
      by_mark : is_marked marks one.rest ≡ true → AnyOf fact (items_of_steps marks (one ∷ steps))
      by_mark is = rw is (inl (subst (λ (step : Step). fact step.item) (sym same) has))
  into_steps (one ∷ steps) step (inr later) mark has =
      or_later (is_marked marks one.rest) (into_steps steps step later mark has)
    where
      or_later : (is : Bool) → AnyOf fact (items_of_steps marks steps)
          → AnyOf fact (if is then one.item ∷ items_of_steps marks steps
          else items_of_steps marks steps)
      or_later true is = inr is
      or_later false is = is

  pub into_states : (states : List State) (number : ℕ) (state : State) (step : Step)
      → slice_get states number ≡ Some state → IsAmong state.steps step
      → is_marked marks step.rest ≡ true → fact step.item
      → AnyOf fact (items_of_states marks states)
  into_states [] number state step at among mark has = absurd (none-some state at)
  into_states (one ∷ states) zero state step at among mark has =
      one_on_left fact (items_of_steps marks one.steps) (items_of_states marks states)
      (into_steps one.steps step
      (subst (λ (state : State). IsAmong state.steps step) (sym (same_Some one state at)) among)
      mark has)
  into_states (one ∷ states) (suc number) state step at among mark has =
      one_on_right fact (items_of_steps marks one.steps) (items_of_states marks states)
      (into_states states number state step at among mark has)

  -- the step of an item that has the fact
  abbrev StepHas : List Step → Type 0
  StepHas steps = (step : Step) × IsAmong steps step × (is_marked marks step.rest ≡ true)
      × fact step.item

  step_later : (one : Step) (steps : List Step) → StepHas steps → StepHas (one ∷ steps)
  step_later one steps found = (found.0, inr found.1, found.2, found.3)

  out_of_steps : (steps : List Step) → AnyOf fact (items_of_steps marks steps) → StepHas steps
  out_of_steps [] any = absurd any
  out_of_steps (one ∷ steps) any =
      by_mark (is_marked marks one.rest) refl (out_of_steps steps) any
    where
      by_mark : (is : Bool) → is_marked marks one.rest ≡ is
          → (AnyOf fact (items_of_steps marks steps) → StepHas steps)
          → AnyOf fact (if is then one.item ∷ items_of_steps marks steps
          else items_of_steps marks steps) → StepHas (one ∷ steps)
      by_mark true mark rest (inl here) = (one, inl refl, mark, here)
      by_mark true mark rest (inr later) = step_later one steps (rest later)
      by_mark false mark rest later = step_later one steps (rest later)

  pub out_of_states : (states : List State) → AnyOf fact (items_of_states marks states)
      → HasStep states
  out_of_states [] any = absurd any
  out_of_states (one ∷ states) any =
      elim (one_on_a_side fact (items_of_steps marks one.steps) (items_of_states marks states) any) [
        | inl here ↦ let found = out_of_steps one.steps here in record {
          number = zero;
          state = one;
          step = found.0;
          at = refl;
          among = found.1;
          mark = found.2;
          has = found.3;
        }
        | inr later ↦ let found = out_of_states states later in record {
          number = suc found.number;
          state = found.state;
          step = found.step;
          at = found.at;
          among = found.among;
          mark = found.mark;
          has = found.has;
        }
      ]

  all_of_steps : (steps : List Step) → AllOf (λ step. fact step.item) steps
      → AllOf fact (items_of_steps marks steps)
  all_of_steps [] all = tt
  all_of_steps (one ∷ steps) all = by_mark (is_marked marks one.rest) (all_of_steps steps all.1)
    where
      by_mark : (is : Bool) → AllOf fact (items_of_steps marks steps)
          → AllOf fact (if is then one.item ∷ items_of_steps marks steps
          else items_of_steps marks steps)
      by_mark true rest = (all.0, rest)
      by_mark false rest = rest

  all_of_states : (states : List State)
      → AllOf (λ state. AllOf (λ step. fact step.item) state.steps) states
      → AllOf fact (items_of_states marks states)
  all_of_states [] all = tt
  all_of_states (one ∷ states) all = each_of_lists fact (items_of_steps marks one.steps)
      (items_of_states marks states) (all_of_steps one.steps all.0) (all_of_states states all.1)

module _ (graph : Graph) (start : NodeId) (questions : List Question) (states : List State)
    (explored : AreExplored graph start questions states) where
  abbrev HasSequence : Question → Type 0
  HasSequence question = (ds : List Thing) × IsElement (sequence_of ds)
      × asked (in_node graph (sequence_of ds)) question true

  -- the state of a number
  state_at : (number : ℕ) (question : Question) → slice_get questions number ≡ Some question
      → (state : State) × (slice_get states number ≡ Some state)
      × IsState graph questions question state
  state_at number question there =
      zip_got (IsState graph questions) questions states number question explored.done there

  question_at : (number : ℕ) (state : State) → slice_get states number ≡ Some state
      → (question : Question) × (slice_get questions number ≡ Some question)
      × IsState graph questions question state
  question_at number state there =
      zip_got_back (IsState graph questions) questions states number state explored.done there

  -- the question of a step's rest
  rest_at : (question : Question) (state : State) → IsState graph questions question state
      → (step : Step) → IsAmong state.steps step
      → (next : Question) × (slice_get questions step.rest ≡ Some next)
  rest_at question state is step among = got_some questions step.rest
      (all_among (λ step. step.rest < length questions) state.steps step
      (rests_below graph questions question state is) among)

  -- a state from which the end is reached has a sequence, if each item has an element
  ends_has : (number : ℕ) → Ends states number → (question : Question)
      → slice_get questions number ≡ Some question → HasSequence question
  ends_has _ (ends_here number state at ends) question there =
      let is = state_at number question there in
      let same = same_Some is.0 state (sym is.1 ∙ at) in
      ([], nil_is_element, is.2.end.0 (ap (λ (state : State). state.ends) same ∙ ends))
  ends_has _ (goes_on number state step at among rest) question there =
      let of = question_at number state at in
      let next = rest_at of.0 state of.2 step among in
      let later = ends_has step.rest rest next.0 next.1 in
      let live = all_among (λ (step : Step). IsInhabited (in_node graph) IsElement step.item)
      state.steps step (items_live graph questions of.0 state of.2) among in (
        live.0 ∷ later.0,
        (live.1, later.1),
        subst (λ (q : Question). asked (in_node graph (sequence_of (live.0 ∷ later.0))) q true)
            (same_Some of.0 question (sym of.1 ∙ there))
            (goes_pair graph questions of.0 state of.2 live.0 (sequence_of later.0)
            (live.1, later.1)
            (any_among (GoesBy graph questions live.0 (sequence_of later.0)) state.steps step among
            (live.2, (next.0, next.1, later.2)))),
      )

  -- and where there is a sequence the end is reached
  has_ends : (ds : List Thing) → IsElement (sequence_of ds) → (number : ℕ) (question : Question)
      → slice_get questions number ≡ Some question
      → asked (in_node graph (sequence_of ds)) question true → Ends states number
  has_ends [] element number question there inside =
      let is = state_at number question there in ends_here number is.0 is.1 (is.2.end.1 inside)
  has_ends (first ∷ ds) element number question there inside =
      let is = state_at number question there in
      let goes = picked (GoesBy graph questions first (sequence_of ds)) is.0.steps
      (pair_goes graph questions question is.0 is.2 first (sequence_of ds) element inside) in
      goes_on number is.0 goes.0 is.1 goes.1
      (has_ends ds element.1 goes.0.rest goes.2.1.0 goes.2.1.1 goes.2.1.2)

  -- items that are asked so, where these states are marked
  module _ (marks : List Bool) (marked : AreMarked states marks) (items : List Question)
      (are : AreItems marks states items) where
    -- an element answers one of them
    abbrev pub IsAskedOne : Thing → Type 0
    IsAskedOne e = AnyOf (λ question. asked (in_node graph e) question true) items

    -- it is one of those of all states
    to_states : (e : Thing) → IsAskedOne e
        → HasStep marks (λ q. asked (in_node graph e) q true) states
    to_states e one = out_of_states marks (λ q. asked (in_node graph e) q true) states
        (any_still (λ q. asked (in_node graph e) q true) items (items_of_states marks states) are.0
        one)

    -- an element that is asked so is an item
    pub asked_is_item : (e : Thing) → IsElement e → IsAskedOne e
        → IsItemOf (elements_of graph start) e
    asked_is_item e element one =
        let found = to_states e one in
        let of = question_at found.number found.state found.at in
        let next = rest_at of.0 found.state of.2 found.step found.among in
        let rest = ends_has found.step.rest (marked.0 found.step.rest
        (mark_read marks found.step.rest found.mark)) next.0 next.1 in
        let inside = goes_pair graph questions of.0 found.state of.2 e (sequence_of rest.0)
        (element, rest.1) (any_among (GoesBy graph questions e (sequence_of rest.0))
        found.state.steps found.step found.among (found.has, (next.0, next.1, rest.2))) in
        let whole = (all_got (IsReached graph start) questions found.number of.0 explored.reached
        of.1).1 (e ∷ rest.0) (element, rest.1) inside in
        item_of_sequence (elements_of graph start) e (whole.0 ++ e ∷ rest.0) whole.1 whole.2
        (one_on_right (λ one. one ≡ e) whole.0 (e ∷ rest.0) (inl refl))

    -- and an item is asked so
    item_asked : (ds : List Thing) → IsElement (sequence_of ds) → (number : ℕ)
        → (question : Question) → slice_get questions number ≡ Some question
        → asked (in_node graph (sequence_of ds)) question true → (e : Thing)
        → AnyOf (λ one. one ≡ e) ds
        → AnyOf (λ q. asked (in_node graph e) q true) (items_of_states marks states)
    item_asked [] element number question there inside e among = absurd among
    item_asked (first ∷ ds) element number question there inside e among =
        let is = state_at number question there in
        let goes = picked (GoesBy graph questions first (sequence_of ds)) is.0.steps
        (pair_goes graph questions question is.0 is.2 first (sequence_of ds) element inside) in
        by_place is goes among
        (item_asked ds element.1 goes.0.rest goes.2.1.0 goes.2.1.1 goes.2.1.2 e)
      where
        by_place : (is : (state : State) × (slice_get states number ≡ Some state)
            × IsState graph questions question state)
            → (goes : (step : Step) × AnyOf (λ other. other ≡ step) is.0.steps
            × GoesBy graph questions first (sequence_of ds) step)
            → (first ≡ e) ⊎ AnyOf (λ one. one ≡ e) ds
            → (AnyOf (λ one. one ≡ e) ds
            → AnyOf (λ q. asked (in_node graph e) q true) (items_of_states marks states))
            → AnyOf (λ q. asked (in_node graph e) q true) (items_of_states marks states)
        by_place is goes (inl same) later =
            into_states marks (λ q. asked (in_node graph e) q true) states number is.0 goes.0 is.1
            goes.1 (read_mark marks goes.0.rest (marked.1 goes.0.rest
            (has_ends ds element.1 goes.0.rest goes.2.1.0 goes.2.1.1 goes.2.1.2)))
            (subst (λ (d : Thing). asked (in_node graph d) goes.0.item true) same goes.2.0)
        by_place is goes (inr rest) later = later rest

    pub item_is_asked : (e : Thing) → IsItemOf (elements_of graph start) e → IsAskedOne e
    item_is_asked e item =
        let of = sequence_of_item (elements_of graph start) e item in
        any_still (λ q. asked (in_node graph e) q true) (items_of_states marks states) items are.1
        (item_asked of.0 of.1 zero (asking start) explored.first ((of.2, tt), tt) e of.3)

    -- they ask nodes of the graph
    pub item_questions_ask : AllOf (AsksNodes (length graph)) items
    item_questions_ask = all_still (AsksNodes (length graph)) items (items_of_states marks states)
        are.0 (all_of_states marks (AsksNodes (length graph)) states
        (each_got (λ state. AllOf (λ step. AsksNodes (length graph) step.item) state.steps) states
        (λ number state at. let of = question_at number state at in
        items_ask graph questions of.0 state of.2)))
