-- The states of an expression ask for nodes below the first of them, and lead to one another.
use Rattle.std.proofs.Common.{ℕ, ◌+◌, ◌<◌, ◌≤◌, Bool, true, false, List, [], ◌∷◌, ◌++◌, map, arith}
use Rattle.cd_model.specs.AllOf.{AllOf}
use Rattle.cd_model.specs.Formula.{Formula, formulas_of, IsFormula, AreFormulas}
use Rattle.cd_model.proofs.SoundBuiltIns.{nil_is_label}
use Rattle.cd_regex.specs.Regular.{Regular, Regulars, NoRegular, ARegular, Nothing, Item, Seq, Alt, Star, Plus, Opt}
use Rattle.cd_regex.specs.Regular.{items_in, items_in_all, AsksBelow, AskBelow}
use Rattle.cd_regex.specs.Automaton.{Follow, nullable, all_nullable, edges_if, first_edges, first_edges_in_turn, first_edges_of_one}
use Rattle.cd_regex.specs.Automaton.{finish, before_all, after_turn, states, states_in_turn, states_of_one, all_states}
use Rattle.cd_regex.specs.Automaton.{edge_formula, end_formulas, state_formula}
use Rattle.cd_regex.specs.declared.follow.Edge.{Edge}

pub each_of_both : {X : Type 0} (fact : X → Type 0) (list others : List X) → AllOf fact list → AllOf fact others → AllOf fact (list ++ others)
each_of_both fact [] others each more = more
each_of_both fact (one ∷ rest) others each more = (each.0, each_of_both fact rest others each.1 more)

-- an edge asks for a node below the first state, and leads to a state
abbrev pub IsEdge : ℕ → ℕ → Edge → Type 0
IsEdge first past edge = (edge.item.0 < first) × (first ≤ edge.to.0) × (edge.to.0 < past)

abbrev pub IsState : ℕ → ℕ → Follow → Type 0
IsState first past follow = AllOf (IsEdge first past) follow.edges

module _ (first past : ℕ) where
  abbrev AreEdges : List Edge → Type 0
  AreEdges edges = AllOf (IsEdge first past) edges

  -- so many items after this number fit
  abbrev Fit : ℕ → ℕ → Type 0
  Fit before items = (first ≤ before) × (before + items < past)

  edges_where : (so : Bool) (edges : List Edge) → AreEdges edges → AreEdges (edges_if so edges)
  edges_where true edges are = are
  edges_where false edges are = tt

  mutual
    pub sound_first_edges : (is : Regular) (before : ℕ) → AsksBelow first is → Fit before (items_in is) → AreEdges (first_edges is before)
    sound_first_edges Nothing before asks fit = tt
    sound_first_edges (Item id) before asks fit = ((asks, omega arith, omega arith), tt)
    sound_first_edges (Seq all) before asks fit = sound_in_turn all before asks fit
    sound_first_edges (Alt all) before asks fit = sound_of_one all before asks fit
    sound_first_edges (Star is) before asks fit = sound_first_edges is before asks fit
    sound_first_edges (Plus is) before asks fit = sound_first_edges is before asks fit
    sound_first_edges (Opt is) before asks fit = sound_first_edges is before asks fit

    pub sound_in_turn : (all : Regulars) (before : ℕ) → AskBelow first all → Fit before (items_in_all all) → AreEdges (first_edges_in_turn all before)
    sound_in_turn NoRegular before asks fit = tt
    sound_in_turn (ARegular one rest) before asks fit =
        let from : ℕ = before + items_in one in
        each_of_both (IsEdge first past) (first_edges one before) (edges_if (nullable one) (first_edges_in_turn rest from))
        (sound_first_edges one before asks.0 (omega arith, omega arith))
        (edges_where (nullable one) (first_edges_in_turn rest from) (sound_in_turn rest from asks.1 (omega arith, omega arith)))

    pub sound_of_one : (all : Regulars) (before : ℕ) → AskBelow first all → Fit before (items_in_all all) → AreEdges (first_edges_of_one all before)
    sound_of_one NoRegular before asks fit = tt
    sound_of_one (ARegular one rest) before asks fit =
        let from : ℕ = before + items_in one in
        each_of_both (IsEdge first past) (first_edges one before) (first_edges_of_one rest from)
        (sound_first_edges one before asks.0 (omega arith, omega arith))
        (sound_of_one rest from asks.1 (omega arith, omega arith))

  sound_before_all : (all : Regulars) (before : ℕ) (follow : Follow) → AskBelow first all → Fit before (items_in_all all)
      → IsState first past follow → IsState first past (before_all all before follow)
  sound_before_all all before follow asks fit sound =
      each_of_both (IsEdge first past) (first_edges_in_turn all before) (edges_if (all_nullable all) follow.edges)
      (sound_in_turn all before asks fit) (edges_where (all_nullable all) follow.edges sound)

  sound_after_turn : (is : Regular) (before : ℕ) (follow : Follow) → AsksBelow first is → Fit before (items_in is)
      → IsState first past follow → IsState first past (after_turn is before follow)
  sound_after_turn is before follow asks fit sound =
      each_of_both (IsEdge first past) (first_edges is before) follow.edges (sound_first_edges is before asks fit) sound

  abbrev AreStates : List Follow → Type 0
  AreStates list = AllOf (IsState first past) list

  mutual
    pub sound_states : (is : Regular) (before : ℕ) (follow : Follow) → AsksBelow first is → Fit before (items_in is) → IsState first past follow
        → AreStates (states is before follow)
    sound_states Nothing before follow asks fit sound = tt
    sound_states (Item id) before follow asks fit sound = (sound, tt)
    sound_states (Seq all) before follow asks fit sound = sound_states_in_turn all before follow asks fit sound
    sound_states (Alt all) before follow asks fit sound = sound_states_of_one all before follow asks fit sound
    sound_states (Star is) before follow asks fit sound =
        sound_states is before (after_turn is before follow) asks fit (sound_after_turn is before follow asks fit sound)
    sound_states (Plus is) before follow asks fit sound =
        sound_states is before (after_turn is before follow) asks fit (sound_after_turn is before follow asks fit sound)
    sound_states (Opt is) before follow asks fit sound = sound_states is before follow asks fit sound

    pub sound_states_in_turn : (all : Regulars) (before : ℕ) (follow : Follow) → AskBelow first all → Fit before (items_in_all all)
        → IsState first past follow → AreStates (states_in_turn all before follow)
    sound_states_in_turn NoRegular before follow asks fit sound = tt
    sound_states_in_turn (ARegular one rest) before follow asks fit sound =
        let from : ℕ = before + items_in one in
        let rest_fit : Fit from (items_in_all rest) = (omega arith, omega arith) in
        each_of_both (IsState first past) (states one before (before_all rest from follow)) (states_in_turn rest from follow)
        (sound_states one before (before_all rest from follow) asks.0 (omega arith, omega arith)
        (sound_before_all rest from follow asks.1 rest_fit sound))
        (sound_states_in_turn rest from follow asks.1 rest_fit sound)

    pub sound_states_of_one : (all : Regulars) (before : ℕ) (follow : Follow) → AskBelow first all → Fit before (items_in_all all)
        → IsState first past follow → AreStates (states_of_one all before follow)
    sound_states_of_one NoRegular before follow asks fit sound = tt
    sound_states_of_one (ARegular one rest) before follow asks fit sound =
        let from : ℕ = before + items_in one in
        each_of_both (IsState first past) (states one before follow) (states_of_one rest from follow)
        (sound_states one before follow asks.0 (omega arith, omega arith) sound)
        (sound_states_of_one rest from follow asks.1 (omega arith, omega arith) sound)

  pub sound_all_states : (is : Regular) → AsksBelow first is → first + items_in is < past → AreStates (all_states is first)
  sound_all_states is asks fit =
      (sound_first_edges is first asks (omega arith, fit), sound_states is first finish asks (omega arith, fit) tt)

-- so their formulas are those of a graph
sound_end : (past : ℕ) (accepting : Bool) → AreFormulas past (formulas_of (end_formulas accepting))
sound_end past true = ((nil_is_label, tt), tt)
sound_end past false = tt

sound_edges : (first past : ℕ) (edges : List Edge) (others : List Formula) → first < past → AllOf (IsEdge first past) edges
    → AreFormulas past (formulas_of others) → AreFormulas past (formulas_of (map edge_formula edges ++ others))
sound_edges first past [] others some are sound = sound
sound_edges first past (edge ∷ edges) others some are sound =
    ((omega (arith, are.0), omega (arith, are.0)), sound_edges first past edges others some are.1 sound)

pub sound_formulas : (first past : ℕ) (list : List Follow) → first < past → AllOf (IsState first past) list
    → AllOf (IsFormula past) (map state_formula list)
sound_formulas first past [] some are = tt
sound_formulas first past (follow ∷ rest) some are =
    (sound_edges first past follow.edges (end_formulas follow.accepting) some are.0 (sound_end past follow.accepting), sound_formulas first past rest some are.1)
