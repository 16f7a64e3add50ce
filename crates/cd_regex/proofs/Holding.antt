-- The states of an expression hold the sequences that fit it.
use Rattle.std.proofs.Common.{◌≡◌, ℕ, ◌+◌, ◌-◌, ◌<◌, ◌≤◌, List, [], ◌∷◌, ◌++◌, length, sym, ap, subst, ◌∙◌, ◌↔◌, Bool, arith}
use Rattle.std.proofs.lemmas.List.{length-map}
use Rattle.cd_sets.specs.declared.node_id.NodeId.{NodeId}
use Rattle.cd_model.specs.Interfaces.{admits}
use Rattle.cd_model.specs.Types.{no_closure, closure_maps}
use Rattle.cd_model.specs.Formula.{nodes}
use Rattle.cd_model.specs.AllOf.{AllOf}
use Rattle.cd_model.specs.Formula.{Graph, IsFormula}
use Rattle.cd_model.specs.BuiltIns.{node}
use Rattle.cd_model.specs.Types.{Items, NoSequence, Listed, are_in}
use Rattle.cd_model.specs.Membership.{Answers}
use Rattle.cd_regex.specs.Regular.{Regular, AsksBelow, fits}
use Rattle.cd_regex.specs.Automaton.{Follow, finish, start, states, all_states, state_formula, sequence_formulas}
use Rattle.cd_regex.specs.Sequences.{HoldsSequences, items_of, value_items_of}
use Rattle.cd_regex.proofs.Ways.{same, through}
use Rattle.cd_regex.proofs.Accepting.{accepts, ArePlaced, length-states}
use Rattle.cd_regex.proofs.Fitting.{start_accepts}
use Rattle.cd_regex.proofs.StateForms.{LeadTo}
use Rattle.cd_regex.proofs.StatesInGraph.{HasStates, thing_accepted}
use Rattle.cd_regex.proofs.SoundStates.{IsEdge, IsState, sound_all_states, sound_formulas}
use Rattle.cd_regex.proofs.StatesInRow.{nth, state_at, row_is_placed, nth_also, formula_of_state}
use Rattle.cd_regex.specs.declared.follow.Edge.{Edge}

-- the number of a state
abbrev IsNumber : ℕ → ℕ → NodeId → Type 0
IsNumber first past id = (first ≤ id.0) × (id.0 < past)

edges_lead : (first past : ℕ) (edges : List Edge) → AllOf (IsEdge first past) edges → LeadTo (IsNumber first past) edges
edges_lead first past [] are = tt
edges_lead first past (edge ∷ edges) are = ((are.0.1, are.0.2), edges_lead first past edges are.1)

module _ (is : Regular) (first : ℕ) (asks : AsksBelow first is) where
  abbrev all : List Follow
  all = all_states is first

  abbrev past : ℕ
  past = first + length all

  abbrev at : NodeId → Follow
  at = state_at first all

  -- a graph with their formulas
  abbrev within : Graph → Graph → Graph
  within before after = before ++ sequence_formulas first is ++ after

  all_are_sound : AllOf (IsState first past) all
  all_are_sound = sound_all_states first past is asks (omega (arith, length-states is first finish))

  has_states : (before after : Graph) → length before ≡ first → HasStates (IsNumber first past) at (within before after)
  has_states before after long = record {
    formulas = λ id placed. formula_of_state before all after id.0 (omega arith) (omega arith)
        ∙ ap (λ (start : ℕ). state_formula (nth all (id.0 - start))) long;
    edges = λ id placed. edges_lead first past (at id).edges
        (nth_also (IsState first past) all (id.0 - first) all_are_sound (omega arith));
  }

  -- from the first state on just what fits is accepted
  others_placed : ArePlaced at first (states is first finish)
  others_placed = subst (λ (number : ℕ). ArePlaced at number (states is first finish)) (omega arith)
      (row_is_placed first (start is first) [] (states is first finish))

  starts : at (node first) ≡ start is first
  starts = let place : first - first ≡ 0 = omega arith in ap (nth all) place

  first_accepts : (items : Items Answers) (answer : Bool) → are_in items (accepts at (at (node first))) answer ↔ are_in items (fits is) answer
  first_accepts NoSequence answer = same
  first_accepts (Listed list) answer = subst (λ (follow : Follow). accepts at follow list answer ↔ fits is list answer) (sym starts)
      (start_accepts at is first others_placed list answer)

  first_is : IsNumber first past (node first)
  first_is = (omega arith, omega arith)

  formulas_are_sound : AllOf (IsFormula (first + length (sequence_formulas first is))) (sequence_formulas first is)
  formulas_are_sound =
      let many : past ≡ first + length (sequence_formulas first is) = ap (λ (count : ℕ). first + count) (sym (length-map all state_formula)) in
      subst (λ (nodes : ℕ). AllOf (IsFormula nodes) (sequence_formulas first is)) many
      (sound_formulas first past all (omega arith) all_are_sound)

  pub batch_holds : HoldsSequences first is (sequence_formulas first is)
  batch_holds = record {
    sound = formulas_are_sound;
    some = omega arith;
    elements = λ before after one answer long. through
        (thing_accepted (IsNumber first past) at (within before after) (has_states before after long) no_closure one (node first) first_is answer)
        (first_accepts (items_of (within before after) one) answer);
    values = λ before after interfaces one answer long. through
        (thing_accepted (IsNumber first past) at (within before after) (has_states before after long)
        (closure_maps (nodes (within before after)) (admits interfaces)) one (node first) first_is answer)
        (first_accepts (value_items_of (within before after) interfaces one) answer);
  }
