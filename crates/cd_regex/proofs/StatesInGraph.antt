-- The nodes of a graph whose formulas are those of states.
use Rattle.std.proofs.Common.{◌≡◌, ℕ, Bool, sym, subst, ◌↔◌}
use Rattle.cd_sets.specs.declared.node_id.NodeId.{NodeId}
use Rattle.cd_model.specs.Thing as thing
use Rattle.cd_model.specs.Thing.{Thing}
use Rattle.cd_model.specs.Formula.{Graph, Formula, formula_at, at_formula, nodes}
use Rattle.cd_model.specs.Types as types
use Rattle.cd_model.specs.Types.{Mapping, items, items_of_atom, with_item, are_in, atom_at, pair_at}
use Rattle.cd_model.proofs.NoSequences.{no_sequences}
use Rattle.cd_model.specs.Membership.{Reader, holds}
use Rattle.cd_regex.specs.Automaton.{Follow, state_formula}
use Rattle.cd_regex.proofs.Ways.{same}
use Rattle.cd_regex.proofs.Accepting.{accepts}
use Rattle.cd_regex.proofs.StateForms.{LeadTo, neither_holds, atom_holds, pair_holds}

-- a node of a place has the formula of its state, whose edges lead to such nodes
pub record HasStates (place : NodeId → Type 0) (at : NodeId → Follow) (graph : Graph) : Type 0 where
  pub formulas : (id : NodeId) → place id → formula_at graph id ≡ state_formula (at id)
  pub edges : (id : NodeId) → place id → LeadTo place (at id).edges

module _ (place : NodeId → Type 0) (at : NodeId → Follow) (graph : Graph) (states : HasStates place at graph) where
  at_place : (read : Reader) (id : NodeId) (answer : Bool) (items : Type 0) → place id
      → holds read (state_formula (at id)) answer ↔ items → holds read (formula_at graph id) answer ↔ items
  at_place read id answer items placed here =
      subst (λ (is : Formula). holds read is answer ↔ items) (sym (states.formulas id placed)) here

  -- a thing is in the node of a state where its items are accepted, and else outside
  module _ (closed : ℕ → Mapping NodeId) where
    pub thing_accepted : (is : Thing) (id : NodeId) → place id → (answer : Bool)
        → types.answers (nodes graph) closed is id answer ↔ are_in (items (nodes graph) closed is) (accepts at (at id)) answer
    thing_accepted (thing.Atom name) = λ id placed answer.
        at_place (at_formula (types.reader (nodes graph) closed (thing.Atom name))) id answer _ placed
        (subst (λ (read : Reader). holds read (state_formula (at id)) answer ↔ are_in (items_of_atom name) (accepts at (at id)) answer)
        (sym (no_sequences (items_of_atom name) (atom_at name))) (atom_holds at (at id) name answer))
    thing_accepted (thing.Pair first second) = λ id placed answer.
        let all = with_item (types.answers (nodes graph) closed first) (items (nodes graph) closed second) in
        at_place (at_formula (types.reader (nodes graph) closed (thing.Pair first second))) id answer _ placed
        (subst (λ (read : Reader). holds read (state_formula (at id)) answer ↔ are_in all (accepts at (at id)) answer)
        (sym (no_sequences all (pair_at (types.answers (nodes graph) closed first) (types.answers (nodes graph) closed second))))
        (pair_holds place at (types.answers (nodes graph) closed first) (types.answers (nodes graph) closed second) answer
        (items (nodes graph) closed second) (λ to there. thing_accepted second to there answer) (at id) (states.edges id placed)))
    thing_accepted other = λ id placed answer.
        at_place (at_formula (types.reader (nodes graph) closed other)) id answer _ placed
        (neither_holds (at_formula (types.reader (nodes graph) closed other)) (at id) answer (λ first second. same) same)
