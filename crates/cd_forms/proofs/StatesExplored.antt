-- What is explored so far, with one more state; and where all questions have states.
use Rattle.std.proofs.Common.{◌≡◌, ◌≤◌, ◌<◌, ℕ, zero, true, List, [], ◌∷◌, ◌++◌, ◌⊎◌, inl}
use Rattle.std.proofs.Common.{inr}
use Rattle.std.proofs.Common.{length, Some, None, refl, sym, ap, subst, ◌∙◌, arith, append_assoc}
use Rattle.std.proofs.Common.{append-nil}
use Rattle.std.proofs.lemmas.Option.{none-some, same_Some, slice_get_within}
use Rattle.std.specs.List.{slice_get, AllZip}
use Rattle.cd_sets.specs.declared.node_id.NodeId.{NodeId}
use Rattle.cd_sets.specs.declared.question.Question.{Question}
use Rattle.cd_model.specs.AllOf.{AllOf, AnyOf}
use Rattle.cd_model.specs.Formula.{Graph, in_node, asked, IsIn}
use Rattle.cd_model.specs.Thing.{Thing, Pair, IsElement}
use Rattle.cd_matching.specs.Sequences.{sequence_of}
use Rattle.cd_rules.specs.Family.{AsksNodes}
use Rattle.cd_model.proofs.Ones.{picked, each_of_all, one_on_left, one_on_right, one_on_a_side}
use Rattle.cd_model.proofs.ByNumber.{got_more, got_pushed, all_got, got_some, past_end, zip_pushed, zip_weaker}
use Rattle.cd_products.specs.Products.{InProduct}
use Rattle.cd_products.specs.QuestionBoxes.{IsInhabited}
use Rattle.cd_forms.specs.declared.of_sequences.step.Step.{Step}
use Rattle.cd_forms.specs.Inner.Asking.{asking}
use Rattle.cd_forms.specs.Inner.Numbered.{IsAmong, GrowTo, IsStepOf, AreNumbered}
use Rattle.cd_forms.specs.Inner.States.{State, AreSound, IsState, IsStateAfter, AreRests}
use Rattle.cd_forms.specs.Inner.States.{IsReached, AreExploring, AreExplored}
use Rattle.cd_forms.proofs.ByNumber.{all_among, any_among}
use Rattle.cd_forms.proofs.ByNumber.{each_among, zip_of_got}
use Rattle.cd_forms.proofs.ByNumber.{zip_any, zip_any_back, zip_all, zip_all_back}

-- a question keeps its number
pub grown_there : (old new : List Question) (number : ℕ) (question : Question) → GrowTo old new
    → slice_get old number ≡ Some question → slice_get new number ≡ Some question
grown_there old new number question (more, same) there =
    subst (λ (all : List Question). slice_get all number ≡ Some question) (sym same)
    (got_more old more number question there)

-- questions grow to themselves, and on and on
pub grow_not : (questions : List Question) → GrowTo questions questions
grow_not questions = ([], sym (append-nil questions))

pub grow_then : (old mid new : List Question) → GrowTo old mid → GrowTo mid new → GrowTo old new
grow_then old mid new (first, one) (later, other) =
    (first ++ later, other ∙ ap (λ all. all ++ later) one ∙ append_assoc old first later)

steps_still : (old new : List Question) → GrowTo old new → (steps : List Step)
    (products : List (Question × Question)) → AllZip (IsStepOf old) steps products
    → AllZip (IsStepOf new) steps products
steps_still old new grow = zip_weaker (IsStepOf old) (IsStepOf new)
    (λ step product is. (is.0, grown_there old new step.rest product.1 grow is.1))

module _ (graph : Graph) where
  state_still : (old new : List Question) → GrowTo old new → (question : Question) (state : State)
      → IsState graph old question state → IsState graph new question state
  state_still old new grow question state is = record {
    end = is.end;
    products = is.products;
    sound = is.sound;
    numbered = steps_still old new grow state.steps is.products is.numbered;
  }

  module _ (start : NodeId) where
    -- what is left after one item more
    rests_of_product : (question : Question) (products : List (Question × Question))
        → AreSound graph question products → AreRests graph start question
        → (product : Question × Question) → IsAmong products product
        → AreRests graph start product.1
    rests_of_product question products sound rests product among ds element inside =
        let live = all_among (λ (product : Question × Question).
        IsInhabited (in_node graph) IsElement product.0
        × IsInhabited (in_node graph) IsElement product.1) products product sound.0.inhabited among
        in
        let longer = rests (live.0.0 ∷ ds) (live.0.1, element)
        (sound.0.only live.0.0 (sequence_of ds) (live.0.1, element)
        (any_among (InProduct (in_node graph) live.0.0 (sequence_of ds)) products product among
        (live.0.2, inside))) in
        let same = sym (append_assoc longer.0 (live.0.0 ∷ []) ds) in (
          longer.0 ++ live.0.0 ∷ [],
          subst (λ (all : List Thing). IsElement (sequence_of all)) same longer.1,
          subst (λ (all : List Thing). IsIn graph (sequence_of all) start) same longer.2,
        )

    -- the second question of a product
    second_reached : (question : Question) (products : List (Question × Question))
        → AreSound graph question products → IsReached graph start question → (next : Question)
        → AnyOf (λ product. product.1 ≡ next) products → IsReached graph start next
    second_reached question products sound reached next any =
        let product = picked (λ (product : Question × Question). product.1 ≡ next) products any in
        subst (IsReached graph start) product.2 (
          (all_among (λ (product : Question × Question).
              AsksNodes (length graph) product.0 × AsksNodes (length graph) product.1) products
              product.0
              sound.1 product.1).1,
          rests_of_product question products sound reached.1 product.0 product.1,
        )

    -- at first there is one question
    pub exploring_first : (old new : List Question) (number : ℕ) (question : Question) → old ≡ []
        → start.0 < length graph → question ≡ asking start
        → slice_get new number ≡ Some question
        → (new ≡ old) ⊎ (new ≡ old ++ question ∷ []) → AreExploring graph start new []
    exploring_first old new number question none below is found (inl same) =
        absurd (nowhere number
        (subst (λ (all : List Question). slice_get all number ≡ Some question) (same ∙ none) found))
      where
        nowhere : (number : ℕ) → slice_get [] number ≡ Some question → ⊥
        nowhere number is = none-some question is
    exploring_first old new number question none below is found (inr one) =
        subst (λ (all : List Question). AreExploring graph start all [])
        (sym (one ∙ ap (λ all. all ++ question ∷ []) none ∙ ap (λ q. q ∷ []) is)) (record {
          first = refl;
          reached = (
            (((below, tt), tt), λ ds element inside. ([], element, inside.0.0)),
            tt,
          );
          done = λ number state is. absurd (none-some state is);
        })

    -- a question with a number is reached
    pub question_reached : (questions : List Question) (states : List State)
        → AreExploring graph start questions states → (number : ℕ) (question : Question)
        → slice_get questions number ≡ Some question → IsReached graph start question
    question_reached questions states so_far number question there =
        all_got (IsReached graph start) questions number question so_far.reached there

    -- the state of the next question
    pub exploring_more : (old new : List Question) (states : List State) (question : Question)
        (state : State) → AreExploring graph start old states
        → slice_get old (length states) ≡ Some question
        → IsStateAfter graph old new question state
        → AreExploring graph start new (states ++ state ∷ [])
    exploring_more old new states question state so_far there is = record {
      first = grown_there old new zero (asking start) grown so_far.first;
      reached = each_among (IsReached graph start) new (λ next among.
          elim (is.numbered.second next among) [
            | inl before ↦ all_among (IsReached graph start) old next so_far.reached before
            | inr later ↦ second_reached question is.products is.sound
                (question_reached old states so_far (length states) question there) next later
          ]);
      done = λ number one at. elim (got_pushed states state number one at) [
        | inl before ↦
            let found = so_far.done number one before in (
              found.0,
              grown_there old new number found.0 grown found.1,
              state_still old new grown found.0 one found.2,
            )
        | inr last ↦ (
          question,
          subst (λ (n : ℕ). slice_get new n ≡ Some question) (sym last.0)
              (grown_there old new (length states) question grown there),
          subst (IsState graph new question) last.1 (record {
            end = is.end;
            products = is.products;
            sound = is.sound;
            numbered = is.numbered.numbered;
          }),
        )
      ];
    }
      where
        grown : GrowTo old new
        grown = is.numbered.grown

    -- where no question is left
    pub explored_all : (questions : List Question) (states : List State)
        → AreExploring graph start questions states
        → slice_get questions (length states) ≡ None → AreExplored graph start questions states
    explored_all questions states so_far none = record {
      first = so_far.first;
      reached = so_far.reached;
      done = zip_of_got (IsState graph questions) questions states as_long
          (λ number question state at is.
          let found = so_far.done number state is in
          subst (λ (q : Question). IsState graph questions q state)
          (same_Some found.0 question (sym found.1 ∙ at)) found.2);
    }
      where
        not_fewer : length questions < length states → ⊥
        not_fewer below =
            let last = got_some states (length questions) below in
            let found = so_far.done (length questions) last.0 last.1 in
            let within = slice_get_within questions (length questions) found.0 found.1 in
            omega (arith, within)

        same_count : (one other : ℕ) → one ≤ other → (one < other → ⊥) → one ≡ other
        same_count one other most never = grind arith

        as_long : length questions ≡ length states
        as_long = same_count (length questions) (length states)
            (past_end questions (length states) none) not_fewer

-- The pairs of a question, by the steps of its state
module _ (graph : Graph) (questions : List Question) where
  -- the first part is asked what the step's item is, and the second what its rest is
  abbrev pub GoesBy : (first second : Thing) → Step → Type 0
  GoesBy first second step = asked (in_node graph first) step.item true
      × ((question : Question) × (slice_get questions step.rest ≡ Some question)
      × asked (in_node graph second) question true)

  module _ (question : Question) (state : State) (is : IsState graph questions question state) where
    pub pair_goes : (first second : Thing) → IsElement (Pair first second)
        → asked (in_node graph (Pair first second)) question true
        → AnyOf (GoesBy first second) state.steps
    pair_goes first second element inside = zip_any_back (IsStepOf questions)
        (GoesBy first second) (InProduct (in_node graph) first second)
        (λ step product of parts. (
          subst (λ (q : Question). asked (in_node graph first) q true) (sym of.0) parts.0,
          (product.1, of.1, parts.1),
        )) state.steps is.products is.numbered
        (is.sound.0.covers first second element inside)

    pub goes_pair : (first second : Thing) → IsElement (Pair first second)
        → AnyOf (GoesBy first second) state.steps
        → asked (in_node graph (Pair first second)) question true
    goes_pair first second element goes = is.sound.0.only first second element
        (zip_any (IsStepOf questions) (GoesBy first second)
        (InProduct (in_node graph) first second)
        (λ step product of parts. (
          subst (λ (q : Question). asked (in_node graph first) q true) of.0 parts.0,
          subst (λ (q : Question). asked (in_node graph second) q true)
              (same_Some parts.1.0 product.1 (sym parts.1.1 ∙ of.1)) parts.1.2,
        )) state.steps is.products is.numbered goes)

    -- what is asked of items asks nodes of the graph
    pub items_ask : AllOf (λ step. AsksNodes (length graph) step.item) state.steps
    items_ask = zip_all_back (IsStepOf questions)
        (λ step. AsksNodes (length graph) step.item)
        (λ product. AsksNodes (length graph) product.0 × AsksNodes (length graph) product.1)
        (λ step product of asks. subst (AsksNodes (length graph)) (sym of.0) asks.0)
        state.steps is.products is.numbered is.sound.1

    -- and has an element
    pub items_live : AllOf (λ step. IsInhabited (in_node graph) IsElement step.item) state.steps
    items_live = zip_all_back (IsStepOf questions)
        (λ step. IsInhabited (in_node graph) IsElement step.item)
        (λ product. IsInhabited (in_node graph) IsElement product.0
        × IsInhabited (in_node graph) IsElement product.1)
        (λ step product of live.
        subst (IsInhabited (in_node graph) IsElement) (sym of.0) live.0)
        state.steps is.products is.numbered is.sound.0.inhabited

    -- and rests have numbers of questions
    pub rests_below : AllOf (λ step. step.rest < length questions) state.steps
    rests_below = zip_all_back (IsStepOf questions) (λ step. step.rest < length questions)
        (λ product. Unit {0}) (λ step product of all.
        slice_get_within questions step.rest product.1 of.1) state.steps is.products is.numbered
        (each_of_all (λ (product : Question × Question). Unit {0}) (λ product. tt) is.products)

-- one product more is numbered
pub numbered_then : (old mid new : List Question) (steps more : List Step)
    (done : List (Question × Question)) (item rest : Question) (step : Step)
    → AreNumbered old mid steps done → slice_get new step.rest ≡ Some rest
    → (new ≡ mid) ⊎ (new ≡ mid ++ rest ∷ []) → step.item ≡ item → more ≡ steps ++ step ∷ []
    → AreNumbered old new more (done ++ (item, rest) ∷ [])
numbered_then old mid new steps more done item rest step so_far there grows is put =
    subst (λ (more : List Step). AreNumbered old new more (done ++ (item, rest) ∷ [])) (sym put)
    (record {
      grown = grow_then old mid new so_far.grown grow;
      numbered = zip_pushed (IsStepOf new) steps done step (item, rest)
          (steps_still mid new grow steps done so_far.numbered) (is, there);
      second = λ question among. elim (added question grows among) [
        | inl before ↦ elim (so_far.second question before) [
          | inl first ↦ inl first
          | inr some ↦
              inr (one_on_left (λ product. product.1 ≡ question) done ((item, rest) ∷ []) some)
        ]
        | inr last ↦
            inr (one_on_right (λ product. product.1 ≡ question) done ((item, rest) ∷ []) (inl last))
      ];
    })
  where
    grow : GrowTo mid new
    grow = elim grows [
      | inl same ↦ subst (GrowTo mid) (sym same) (grow_not mid)
      | inr one ↦ (rest ∷ [], one)
    ]

    added : (question : Question) → (new ≡ mid) ⊎ (new ≡ mid ++ rest ∷ [])
        → IsAmong new question → IsAmong mid question ⊎ (rest ≡ question)
    added question (inl same) among =
        inl (subst (λ (all : List Question). IsAmong all question) same among)
    added question (inr one) among =
        elim (one_on_a_side (λ other. other ≡ question) mid (rest ∷ [])
        (subst (λ (all : List Question). IsAmong all question) one among)) [
          | inl before ↦ inl before
          | inr last ↦ elim last [ inl same ↦ inr same | inr none ↦ absurd none ]
        ]

-- what items are asked in all states asks nodes of the graph
pub explored_ask : (graph : Graph) (start : NodeId) (questions : List Question)
    (states : List State) → AreExplored graph start questions states
    → AllOf (λ state. AllOf (λ step. AsksNodes (length graph) step.item) state.steps) states
explored_ask graph start questions states explored = zip_all (IsState graph questions)
    (λ question. Unit {0}) (λ state. AllOf (λ step. AsksNodes (length graph) step.item) state.steps)
    (λ question state is all. items_ask graph questions question state is) questions states
    explored.done (each_of_all (λ (question : Question). Unit {0}) (λ question. tt) questions)
