-- What a thing answers at the formula of a state, by its items.
use Rattle.std.proofs.Common.{◌≡◌, Bool, true, false, List, [], ◌∷◌, ◌++◌, map, ◌↔◌, refl, codes, bytes_eq}
use Rattle.cd_sets.specs.declared.node_id.NodeId.{NodeId}
use Rattle.cd_syntax.specs.Name.{Name}
use Rattle.cd_model.specs.AllOf.{AllOf}
use Rattle.cd_model.specs.Formula.{Formula, formulas_of, Pair, Or}
use Rattle.cd_model.specs.BuiltIns.{atoms_of}
use Rattle.cd_model.specs.Language.{both, some}
use Rattle.cd_model.specs.Types.{Items, NoSequence, Listed, no_items_if, items_of_atom, with_item, are_in}
use Rattle.cd_model.specs.Membership.{Answers, Reader, holds, atom_reader, pair_reader}
use Rattle.cd_regex.specs.Automaton.{Follow, edge_formula, end_formulas, state_formula}
use Rattle.cd_regex.specs.declared.follow.Edge.{Edge}
use Rattle.cd_regex.proofs.Ways.{same, back, through, both_same, some_same, some_grouped, some_or_never, never_or_some}
use Rattle.cd_regex.proofs.Ways.{both_never, both_and_never, both_always, both_and_always}
use Rattle.cd_regex.proofs.Accepting.{leads, accepts, turned}

-- one of the formulas holds it
abbrev one_holds_it : Reader → List Formula → Bool → Type 0
one_holds_it reader [] answer = answer ≡ false
one_holds_it reader (is ∷ rest) answer = some answer (holds reader is answer) (one_holds_it reader rest answer)

one_of_them : (reader : Reader) (formulas : List Formula) (answer : Bool)
    → holds reader (Or (formulas_of formulas)) answer ↔ one_holds_it reader formulas answer
one_of_them reader [] true = (λ h. absurd h, λ h. cc)
one_of_them reader [] false = (λ h. refl, λ h. tt)
one_of_them reader (is ∷ rest) true = some_same true same (one_of_them reader rest true)
one_of_them reader (is ∷ rest) false = some_same false same (one_of_them reader rest false)

one_of_both : (reader : Reader) (formulas others : List Formula) (answer : Bool)
    → one_holds_it reader (formulas ++ others) answer
    ↔ some answer (one_holds_it reader formulas answer) (one_holds_it reader others answer)
one_of_both reader [] others answer = back (never_or_some answer (one_holds_it reader others answer))
one_of_both reader (is ∷ rest) others answer = through
    (some_same answer same (one_of_both reader rest others answer))
    (some_grouped answer (holds reader is answer) (one_holds_it reader rest answer) (one_holds_it reader others answer))

-- one of the edges holds it, or the end
abbrev at_end : Reader → Bool → Bool → Type 0
at_end reader accepting answer = one_holds_it reader (end_formulas accepting) answer

by_edges : (reader : Reader) (follow : Follow) (answer : Bool)
    → holds reader (state_formula follow) answer
    ↔ some answer (one_holds_it reader (map edge_formula follow.edges) answer) (at_end reader follow.accepting answer)
by_edges reader follow answer = through
    (one_of_them reader (map edge_formula follow.edges ++ end_formulas follow.accepting) answer)
    (one_of_both reader (map edge_formula follow.edges) (end_formulas follow.accepting) answer)

-- a thing that is in no pair is in no edge, and one that is in no atoms is not at the end
InNoPair : Reader → Bool → Type 0
InNoPair reader answer = (first second : NodeId) → reader (Pair first second) answer ↔ (answer ≡ false)

no_edge : (reader : Reader) (answer : Bool) → InNoPair reader answer → (edges : List Edge)
    → one_holds_it reader (map edge_formula edges) answer ↔ (answer ≡ false)
unfolding InNoPair
no_edge reader answer none [] = same
no_edge reader answer none (edge ∷ edges) = through
    (some_same answer (none edge.item edge.to) (no_edge reader answer none edges))
    (some_or_never answer (answer ≡ false))

no_end : (reader : Reader) (answer : Bool) → (reader (atoms_of (codes "nil" ∷ [])) answer ↔ (answer ≡ false)) → (accepting : Bool)
    → at_end reader accepting answer ↔ (answer ≡ false)
no_end reader answer none true = through (some_or_never answer (reader (atoms_of (codes "nil" ∷ [])) answer)) none
no_end reader answer none false = same

-- a thing that is neither a pair nor an atom
pub neither_holds : (reader : Reader) (follow : Follow) (answer : Bool)
    → ((first second : NodeId) → reader (Pair first second) answer ↔ (answer ≡ false))
    → (reader (atoms_of (codes "nil" ∷ [])) answer ↔ (answer ≡ false))
    → holds reader (state_formula follow) answer ↔ (answer ≡ false)
unfolding InNoPair
neither_holds reader follow answer no_pair no_atom = through (by_edges reader follow answer)
    (through (some_same answer (no_edge reader answer no_pair follow.edges) (no_end reader answer no_atom follow.accepting))
    (some_or_never answer (answer ≡ false)))

-- an atom is the end, or no sequence
nil_holds : (name : Name) (is_nil answer : Bool) → bytes_eq name (codes "nil") ≡ is_nil
    → holds (atom_reader name) (atoms_of (codes "nil" ∷ [])) answer ↔ (is_nil ≡ answer)
nil_holds name true answer is = rw is same
nil_holds name false answer is = rw is same

accepting_at_nil : (name : Name) (is_nil accepting answer : Bool) → bytes_eq name (codes "nil") ≡ is_nil
    → at_end (atom_reader name) accepting answer ↔ both answer (is_nil ≡ answer) (accepting ≡ answer)
accepting_at_nil name is_nil true answer is = through (some_or_never answer (holds (atom_reader name) (atoms_of (codes "nil" ∷ [])) answer))
    (through (nil_holds name is_nil answer is) (back (through (both_same answer same turned) (both_and_always answer (is_nil ≡ answer)))))
accepting_at_nil name is_nil false answer is = back (through (both_same answer same turned) (both_and_never answer (is_nil ≡ answer)))

items_at_nil : (at : NodeId → Follow) (follow : Follow) (is_nil answer : Bool)
    → both answer (is_nil ≡ answer) (follow.accepting ≡ answer) ↔ are_in (no_items_if is_nil) (accepts at follow) answer
items_at_nil at follow true answer = through (both_same answer turned same) (both_always answer (follow.accepting ≡ answer))
items_at_nil at follow false answer = through (both_same answer turned same) (both_never answer (follow.accepting ≡ answer))

pub atom_holds : (at : NodeId → Follow) (follow : Follow) (name : Name) (answer : Bool)
    → holds (atom_reader name) (state_formula follow) answer ↔ are_in (items_of_atom name) (accepts at follow) answer
unfolding InNoPair
atom_holds at follow name answer = through (by_edges (atom_reader name) follow answer)
    (through (some_same answer (no_edge (atom_reader name) answer (λ first second. same) follow.edges) same)
    (through (never_or_some answer (at_end (atom_reader name) follow.accepting answer))
    (through (accepting_at_nil name (bytes_eq name (codes "nil")) follow.accepting answer refl)
    (items_at_nil at follow (bytes_eq name (codes "nil")) answer))))

-- a pair is an item and then what its second part is
pair_is : (first second : Answers) (one other : NodeId) (answer : Bool)
    → pair_reader first second (Pair one other) answer ↔ both answer (first one answer) (second other answer)
pair_is first second one other true = same
pair_is first second one other false = same

-- each edge leads to such a node
abbrev pub LeadTo : (NodeId → Type 0) → List Edge → Type 0
LeadTo place edges = AllOf (λ edge. place edge.to) edges

module _ (place : NodeId → Type 0) (at : NodeId → Follow) (first second : Answers) (answer : Bool) where
  -- the second part is no sequence
  no_sequence : ((to : NodeId) → place to → second to answer ↔ (answer ≡ false)) → (edges : List Edge) → LeadTo place edges
      → one_holds_it (pair_reader first second) (map edge_formula edges) answer ↔ (answer ≡ false)
  no_sequence none [] lead = same
  no_sequence none (edge ∷ edges) lead = through
      (some_same answer
      (through (pair_is first second edge.item edge.to answer)
      (through (both_same answer same (none edge.to lead.0)) (both_and_never answer (first edge.item answer))))
      (no_sequence none edges lead.1))
      (some_or_never answer (answer ≡ false))

  -- it is one with these items
  sequence : (rest : List Answers) → ((to : NodeId) → place to → second to answer ↔ accepts at (at to) rest answer)
      → (edges : List Edge) → LeadTo place edges
      → one_holds_it (pair_reader first second) (map edge_formula edges) answer ↔ leads (λ to. accepts at (at to) rest) edges first answer
  sequence rest here [] lead = same
  sequence rest here (edge ∷ edges) lead = some_same answer
      (through (pair_is first second edge.item edge.to answer) (both_same answer same (here edge.to lead.0)))
      (sequence rest here edges lead.1)

  edges_hold : (items : Items Answers) → ((to : NodeId) → place to → second to answer ↔ are_in items (accepts at (at to)) answer)
      → (follow : Follow) → LeadTo place follow.edges
      → one_holds_it (pair_reader first second) (map edge_formula follow.edges) answer ↔ are_in (with_item first items) (accepts at follow) answer
  edges_hold NoSequence here follow lead = no_sequence here follow.edges lead
  edges_hold (Listed rest) here follow lead = sequence rest here follow.edges lead

  pub pair_holds : (items : Items Answers) → ((to : NodeId) → place to → second to answer ↔ are_in items (accepts at (at to)) answer)
      → (follow : Follow) → LeadTo place follow.edges
      → holds (pair_reader first second) (state_formula follow) answer ↔ are_in (with_item first items) (accepts at follow) answer
  pair_holds items here follow lead = through (by_edges (pair_reader first second) follow answer)
      (through (some_same answer (edges_hold items here follow lead) (no_end (pair_reader first second) answer same follow.accepting))
      (some_or_never answer (are_in (with_item first items) (accepts at follow) answer)))
