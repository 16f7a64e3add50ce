-- The lists of items that are accepted from a state on.
use Rattle.std.proofs.Common.{◌≡◌, ℕ, ◌+◌, Bool, true, false, ◌&&◌, ◌||◌, inl, inr, List, [], ◌∷◌, ◌++◌, length, ◌↔◌, refl, sym, subst, ◌∙◌, arith}
use Rattle.std.proofs.lemmas.List.{length-append}
use Rattle.cd_sets.specs.declared.node_id.NodeId.{NodeId}
use Rattle.cd_model.specs.BuiltIns.{node}
use Rattle.cd_model.specs.Language.{Language, both, some}
use Rattle.cd_model.specs.Membership.{Answers}
use Rattle.cd_regex.specs.Regular.{Regular, Regulars, NoRegular, ARegular, Nothing, Item, Seq, Alt, Star, Plus, Opt, items_in, items_in_all}
use Rattle.cd_regex.specs.Automaton.{Follow, edges_if, before_all, after_turn, states, states_in_turn, states_of_one}
use Rattle.cd_regex.specs.declared.follow.Edge.{Edge}
use Rattle.cd_regex.proofs.Ways.{same, through, some_same, some_grouped}

-- one of the edges is of a node that the item is in, and leads to a state from which the rest is accepted
abbrev pub leads : (NodeId → Bool → Type 0) → List Edge → Answers → Bool → Type 0
leads rest [] one answer = answer ≡ false
leads rest (edge ∷ edges) one answer = some answer (both answer (one edge.item answer) (rest edge.to answer)) (leads rest edges one answer)

-- what is accepted where this follows, by the states of these nodes
abbrev pub accepts : (NodeId → Follow) → Follow → Language Answers
accepts at follow [] answer = follow.accepting ≡ answer
accepts at follow (one ∷ rest) answer = leads (λ to. accepts at (at to) rest) follow.edges one answer

pub leads_append : (rest : NodeId → Bool → Type 0) (edges others : List Edge) (one : Answers) (answer : Bool)
    → leads rest (edges ++ others) one answer ↔ some answer (leads rest edges one answer) (leads rest others one answer)
leads_append rest [] others one true = (λ h. inr h, elim [ inl is ↦ cc | inr h ↦ h ])
leads_append rest [] others one false = (λ h. (refl, h), λ h. h.1)
leads_append rest (edge ∷ edges) others one answer = through
    (some_same answer same (leads_append rest edges others one answer))
    (some_grouped answer (both answer (one edge.item answer) (rest edge.to answer)) (leads rest edges one answer) (leads rest others one answer))

pub turned : {b c : Bool} → (b ≡ c) ↔ (c ≡ b)
turned = (λ e. sym e, λ e. sym e)

pub leads_if : (so : Bool) (rest : NodeId → Bool → Type 0) (edges : List Edge) (one : Answers) (answer : Bool)
    → leads rest (edges_if so edges) one answer ↔ both answer (so ≡ answer) (leads rest edges one answer)
leads_if true rest edges one true = (λ h. (refl, h), λ h. h.1)
leads_if true rest edges one false = (λ h. inr h, elim [ inl is ↦ cc | inr h ↦ h ])
leads_if false rest edges one true = (λ h. cc, λ h. absurd (let e = h.0 in cc))
leads_if false rest edges one false = (λ h. inl refl, λ h. refl)

pub and_both : (one other answer : Bool) → ((one && other) ≡ answer) ↔ both answer (one ≡ answer) (other ≡ answer)
and_both true other true = (λ e. (refl, e), λ h. h.1)
and_both true other false = (λ e. inr e, elim [ inl e ↦ cc | inr e ↦ e ])
and_both false other true = (λ e. cc, λ h. h.0)
and_both false other false = (λ e. inl refl, λ h. refl)

pub or_some : (one other answer : Bool) → ((one || other) ≡ answer) ↔ some answer (one ≡ answer) (other ≡ answer)
or_some true other true = (λ e. inl refl, λ h. refl)
or_some true other false = (λ e. cc, λ h. h.0)
or_some false other true = (λ e. inr e, elim [ inl e ↦ cc | inr e ↦ e ])
or_some false other false = (λ e. (refl, e), λ h. h.1)

-- the states after this number are these
abbrev pub ArePlaced : (NodeId → Follow) → ℕ → List Follow → Type 0
ArePlaced at before [] = Unit {0}
ArePlaced at before (follow ∷ rest) = (at (node (before + 1)) ≡ follow) × ArePlaced at (before + 1) rest

pub placed_first : (at : NodeId → Follow) (before : ℕ) (one other : List Follow) → ArePlaced at before (one ++ other) → ArePlaced at before one
placed_first at before [] other placed = tt
placed_first at before (follow ∷ one) other placed = (placed.0, placed_first at (before + 1) one other placed.1)

pub placed_second : (at : NodeId → Follow) (before count : ℕ) (one other : List Follow) → length one ≡ count
    → ArePlaced at before (one ++ other) → ArePlaced at (before + count) other
placed_second at before count [] other long placed =
    let same_place : before ≡ before + count = omega (arith, long) in
    subst (λ (place : ℕ). ArePlaced at place other) same_place placed
placed_second at before count (follow ∷ one) other long placed =
    let same_place : (before + 1) + length one ≡ before + count = omega (arith, long) in
    subst (λ (place : ℕ). ArePlaced at place other) same_place (placed_second at (before + 1) (length one) one other refl placed.1)

length_both : {count more : ℕ} (one other : List Follow) → length one ≡ count → length other ≡ more
    → length (one ++ other) ≡ count + more
length_both one other first second = length-append one other ∙ omega arith

-- there is a state for each item
mutual
  pub length-states : (is : Regular) (before : ℕ) (follow : Follow) → length (states is before follow) ≡ items_in is
  length-states Nothing before follow = refl
  length-states (Item id) before follow = refl
  length-states (Seq all) before follow = length-states_in_turn all before follow
  length-states (Alt all) before follow = length-states_of_one all before follow
  length-states (Star is) before follow = length-states is before (after_turn is before follow)
  length-states (Plus is) before follow = length-states is before (after_turn is before follow)
  length-states (Opt is) before follow = length-states is before follow

  pub length-states_in_turn : (all : Regulars) (before : ℕ) (follow : Follow) → length (states_in_turn all before follow) ≡ items_in_all all
  length-states_in_turn NoRegular before follow = refl
  length-states_in_turn (ARegular first rest) before follow = length_both
      (states first before (before_all rest (before + items_in first) follow)) (states_in_turn rest (before + items_in first) follow)
      (length-states first before (before_all rest (before + items_in first) follow)) (length-states_in_turn rest (before + items_in first) follow)

  pub length-states_of_one : (all : Regulars) (before : ℕ) (follow : Follow) → length (states_of_one all before follow) ≡ items_in_all all
  length-states_of_one NoRegular before follow = refl
  length-states_of_one (ARegular first rest) before follow = length_both
      (states first before follow) (states_of_one rest (before + items_in first) follow)
      (length-states first before follow) (length-states_of_one rest (before + items_in first) follow)
