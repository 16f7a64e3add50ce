-- The nodes of states, in the graph that has their formulas, hold the sequences of their questions,
-- each followed by what is in the second node.
use Rattle.std.proofs.Common.{◌≡◌, ◌↔◌, ◌<◌, ℕ, Bool, true, false, List, []}
use Rattle.std.proofs.Common.{◌∷◌, ◌++◌, ◌⊎◌, inl, inr, length, Some, refl, sym, ap, subst}
use Rattle.std.proofs.Common.{true≢false}
use Rattle.std.specs.List.{slice_get, AllZip}
use Rattle.cd_sets.specs.declared.node_id.NodeId.{NodeId}
use Rattle.cd_sets.specs.declared.question.Question.{Question}
use Rattle.cd_model.specs.AllOf.{AnyOf}
use Rattle.cd_model.specs.Formula as formula
use Rattle.cd_model.specs.Formula.{Graph, Formula, Nothing, IsGraph, in_node, asked, IsIn}
use Rattle.cd_model.specs.Formula.{formula_at}
use Rattle.cd_model.specs.Formula.{formulas_of}
use Rattle.cd_model.specs.Membership.{holds, one_holds, reader}
use Rattle.cd_model.specs.Thing as thing
use Rattle.cd_model.specs.Thing.{Thing, IsElement}
use Rattle.cd_matching.specs.Sequences.{sequence_of}
use Rattle.cd_matching.proofs.NilIsElement.{nil_is_element}
use Rattle.cd_meaning.specs.Sequences.{followed_by}
use Rattle.cd_model.proofs.Ones.{picked}
use Rattle.cd_model.proofs.ByNumber.{got_some}
use Rattle.cd_forms.specs.declared.of_sequences.step.Step.{Step}
use Rattle.cd_forms.specs.Inner.Numbered.{IsAmong}
use Rattle.cd_forms.specs.Inner.States.{State, IsState}
use Rattle.cd_forms.specs.Inner.StateFormulas.{when_ends}
use Rattle.cd_forms.proofs.ByNumber.{zip_any, zip_any_back, any_among, all_among}
use Rattle.cd_forms.proofs.StatesExplored.{GoesBy, pair_goes, goes_pair, rests_below}

-- what holds at one of some formulas
pub one_of_formulas : (graph : Graph) (e : Thing) (fs : List Formula)
    → one_holds (reader graph e) (formulas_of fs) true
    → AnyOf (λ f. holds (reader graph e) f true) fs
one_of_formulas graph e [] none = none
one_of_formulas graph e (f ∷ fs) (inl here) = inl here
one_of_formulas graph e (f ∷ fs) (inr later) = inr (one_of_formulas graph e fs later)

pub of_one_formula : (graph : Graph) (e : Thing) (fs : List Formula)
    → AnyOf (λ f. holds (reader graph e) f true) fs
    → one_holds (reader graph e) (formulas_of fs) true
of_one_formula graph e [] none = none
of_one_formula graph e (f ∷ fs) (inl here) = inl here
of_one_formula graph e (f ∷ fs) (inr later) = inr (of_one_formula graph e fs later)

module _ (old new : Graph) (second : NodeId) (questions : List Question) (id : ℕ → NodeId) where
  -- the node of what an item is asked holds it
  abbrev pub HoldsItem : Question → NodeId → Type 0
  HoldsItem question item = (e : Thing) → IsElement e
      → IsIn new e item ↔ asked (in_node old e) question true

  -- the pairs of a step
  abbrev pub IsPairs : Step → Formula → Type 0
  IsPairs step f = (item : NodeId) × HoldsItem step.item item
      × (f ≡ formula.Pair item (id step.rest))

  -- the node of a state
  pub record IsStateNode (number : ℕ) (question : Question) : Type 0 where
    pub state : State
    pub is : IsState old questions question state
    pub end : Formula
    pub ending : (e : Thing) → IsElement e → holds (reader new e) end true ↔ IsIn old e second
    pub members : List Formula
    pub pairs : AllZip IsPairs state.steps members
    pub formula_is : formula_at new (id number)
        ≡ formula.Or (formulas_of (when_ends state.ends end ++ members))

  module _ (nodes : (number : ℕ) (question : Question) → slice_get questions number ≡ Some question
      → IsStateNode number question) where
    -- a sequence of the question, followed by an element of the second node
    abbrev pub IsJoined : Question → Thing → Type 0
    IsJoined question whole = (ds : List Thing) × (e : Thing) × IsElement (sequence_of ds)
        × IsElement e × asked (in_node old (sequence_of ds)) question true × IsIn old e second
        × (whole ≡ followed_by ds e)

    -- a pair of a step
    abbrev IsOfStep : (first rest : Thing) → Step → Type 0
    IsOfStep first rest step =
        asked (in_node old first) step.item true × IsIn new rest (id step.rest)

    -- what is at a formula
    abbrev InFormula : Thing → Formula → Type 0
    InFormula whole f = holds (reader new whole) f true

    split_ends : (ends : Bool) (end : Formula) (members : List Formula) (whole : Thing)
        → AnyOf (InFormula whole) (when_ends ends end ++ members)
        → ((ends ≡ true) × InFormula whole end) ⊎ AnyOf (InFormula whole) members
    split_ends true end members whole (inl here) = inl (refl, here)
    split_ends true end members whole (inr later) = inr later
    split_ends false end members whole any = inr any

    join_ends : (ends : Bool) (end : Formula) (members : List Formula) (whole : Thing)
        → ((ends ≡ true) × InFormula whole end) ⊎ AnyOf (InFormula whole) members
        → AnyOf (InFormula whole) (when_ends ends end ++ members)
    join_ends true end members whole (inl here) = inl here.1
    join_ends true end members whole (inr later) = inr later
    join_ends false end members whole (inl here) = absurd (true≢false (sym here.0))
    join_ends false end members whole (inr later) = later

    module _ (number : ℕ) (question : Question) (at : IsStateNode number question) where
      -- what is in the node of a state comes after the empty sequence, or is of a step
      out_of_node : (whole : Thing) → IsElement whole → IsIn new whole (id number)
          → ((at.state.ends ≡ true) × IsIn old whole second) ⊎ AnyOf (InFormula whole) at.members
      out_of_node whole element inside =
          elim (split_ends at.state.ends at.end at.members whole
          (one_of_formulas new whole (when_ends at.state.ends at.end ++ at.members)
          (subst (λ (f : Formula). holds (reader new whole) f true) at.formula_is inside))) [
            | inl here ↦ inl (here.0, (at.ending whole element).0 here.1)
            | inr later ↦ inr later
          ]

      into_node : (whole : Thing) → IsElement whole
          → ((at.state.ends ≡ true) × IsIn old whole second) ⊎ AnyOf (InFormula whole) at.members
          → IsIn new whole (id number)
      into_node whole element one =
          subst (λ (f : Formula). holds (reader new whole) f true) (sym at.formula_is)
          (of_one_formula new whole (when_ends at.state.ends at.end ++ at.members)
          (join_ends at.state.ends at.end at.members whole (elim one [
            | inl here ↦ inl (here.0, (at.ending whole element).1 here.1)
            | inr later ↦ inr later
          ])))

      at_end : (whole : Thing) → IsElement whole → at.state.ends ≡ true → IsIn old whole second
          → IsJoined question whole
      at_end whole element ends inside =
          ([], whole, nil_is_element, element, at.is.end.0 ends, inside, refl)

      -- by a step
      pair_out : (first rest : Thing) → IsElement first
          → AnyOf (InFormula (thing.Pair first rest)) at.members
          → AnyOf (IsOfStep first rest) at.state.steps
      pair_out first rest element = zip_any_back IsPairs (IsOfStep first rest)
          (InFormula (thing.Pair first rest))
          (λ step f of inside.
          let both = subst (λ (f : Formula). holds (reader new (thing.Pair first rest)) f true) of.2
          inside in ((of.1 first element).0 both.0, both.1))
          at.state.steps at.members at.pairs

      pair_in : (first rest : Thing) → IsElement first
          → AnyOf (IsOfStep first rest) at.state.steps
          → AnyOf (InFormula (thing.Pair first rest)) at.members
      pair_in first rest element = zip_any IsPairs (IsOfStep first rest)
          (InFormula (thing.Pair first rest))
          (λ step f of inside.
          subst (λ (f : Formula). holds (reader new (thing.Pair first rest)) f true) (sym of.2)
          ((of.1 first element).1 inside.0, inside.1))
          at.state.steps at.members at.pairs

      -- what is no pair
      no_pair : (whole : Thing) → ((one other : NodeId)
          → InFormula whole (formula.Pair one other) → ⊥)
          → AnyOf (InFormula whole) at.members → ⊥
      no_pair whole never = not_any at.state.steps at.members at.pairs
        where
          not_any : (steps : List Step) (members : List Formula) → AllZip IsPairs steps members
              → AnyOf (InFormula whole) members → ⊥
          not_any steps [] all any = any
          not_any [] (f ∷ members) all any = all
          not_any (step ∷ steps) (f ∷ members) all (inl here) = never all.0.0 (id step.rest)
              (subst (λ (f : Formula). holds (reader new whole) f true) all.0.2 here)
          not_any (step ∷ steps) (f ∷ members) all (inr later) =
              not_any steps members all.1 later

      out_of_basic : (whole : Thing) → IsElement whole
          → ((one other : NodeId) → InFormula whole (formula.Pair one other) → ⊥)
          → IsIn new whole (id number) → IsJoined question whole
      out_of_basic whole element never inside = elim (out_of_node whole element inside) [
        | inl end ↦ at_end whole element end.0 end.1
        | inr pair ↦ absurd (no_pair whole never pair)
      ]

    -- what is in the node of a state is joined
    pub node_is_joined : (whole : Thing) → IsElement whole → (number : ℕ) (question : Question)
        → slice_get questions number ≡ Some question → IsIn new whole (id number)
        → IsJoined question whole
    node_is_joined (thing.Pair first rest) element number question there inside =
        by_state (node_is_joined rest element.1)
      where
        at : IsStateNode number question
        at = nodes number question there

        by_state : ((number : ℕ) (question : Question) → slice_get questions number ≡ Some question
            → IsIn new rest (id number) → IsJoined question rest)
            → IsJoined question (thing.Pair first rest)
        by_state later = elim
            (out_of_node number question at (thing.Pair first rest) element inside) [
              | inl end ↦ at_end number question at (thing.Pair first rest) element end.0 end.1
              | inr pair ↦
                  let goes = picked (IsOfStep first rest) at.state.steps
                  (pair_out number question at first rest element.0 pair) in
                  let to = rest_of goes.0 goes.1 in
                  let joined = later goes.0.rest to.0 to.1 goes.2.1 in (
                    first ∷ joined.0,
                    joined.1,
                    (element.0, joined.2),
                    joined.3,
                    goes_pair old questions question at.state at.is first (sequence_of joined.0)
                        (element.0, joined.2)
                        (any_among (GoesBy old questions first (sequence_of joined.0))
                        at.state.steps
                        goes.0 goes.1 (goes.2.0, (to.0, to.1, joined.4))),
                    joined.5,
                    ap (thing.Pair first) {y = followed_by joined.0 joined.1} joined.6,
                  )
            ]
          where
            rest_of : (step : Step) → IsAmong at.state.steps step
                → (next : Question) × (slice_get questions step.rest ≡ Some next)
            rest_of step among = got_some questions step.rest
                (all_among (λ step. step.rest < length questions) at.state.steps step
                (rests_below old questions question at.state at.is) among)
    node_is_joined (thing.Integer n) element number question there inside = out_of_basic number
        question (nodes number question there) (thing.Integer n) element
        (λ one other. true≢false) inside
    node_is_joined (thing.Character c) element number question there inside = out_of_basic number
        question (nodes number question there) (thing.Character c) element
        (λ one other. true≢false) inside
    node_is_joined (thing.Atom name) element number question there inside = out_of_basic number
        question (nodes number question there) (thing.Atom name) element
        (λ one other. true≢false) inside
    node_is_joined (thing.Xml tag attributes content) element number question there inside =
        out_of_basic number question (nodes number question there)
        (thing.Xml tag attributes content) element (λ one other. true≢false) inside
    node_is_joined (thing.Record fields) element number question there inside = out_of_basic number
        question (nodes number question there) (thing.Record fields) element
        (λ one other. true≢false) inside
    node_is_joined (thing.Function pairs) element number question there inside = out_of_basic number
        question (nodes number question there) (thing.Function pairs) element
        (λ one other. true≢false) inside
    node_is_joined (thing.Closure function environment) element number question there inside =
        absurd element

    -- and what is joined is in the node
    pub joined_in_node : (ds : List Thing) (e : Thing) → IsElement (sequence_of ds) → IsElement e
        → IsElement (followed_by ds e) → IsIn old e second → (number : ℕ) (question : Question)
        → slice_get questions number ≡ Some question
        → asked (in_node old (sequence_of ds)) question true
        → IsIn new (followed_by ds e) (id number)
    joined_in_node [] e sequence element whole inside number question there asks =
        let at = nodes number question there in
        into_node number question at e element (inl (at.is.end.1 asks, inside))
    joined_in_node (first ∷ ds) e sequence element whole inside number question there asks =
        let at = nodes number question there in
        let goes = picked (GoesBy old questions first (sequence_of ds)) at.state.steps
        (pair_goes old questions question at.state at.is first (sequence_of ds) sequence asks) in
        let later = joined_in_node ds e sequence.1 element whole.1 inside goes.0.rest goes.2.1.0
        goes.2.1.1 goes.2.1.2 in
        into_node number question at (thing.Pair first (followed_by ds e)) whole
        (inr (pair_in number question at first (followed_by ds e) sequence.0
        (any_among (IsOfStep first (followed_by ds e)) at.state.steps goes.0 goes.1
        (goes.2.0, later))))
