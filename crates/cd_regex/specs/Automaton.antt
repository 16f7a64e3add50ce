-- The Glushkov automaton of a regular expression: a state to start in, and one after each of its
-- items. States are numbered from the left, after a number that is given, and what follows the
-- whole expression is given too.
use Rattle.std.specs.Prelude.{ℕ, ◌+◌, Bool, true, false, ◌&&◌, ◌||◌, List, [], ◌∷◌, ◌++◌, map}
use Rattle.std.specs.Prelude.{codes}
use Rattle.cd_model.specs.Formula.{Formula, Pair, Or, formulas_of}
use Rattle.cd_model.specs.BuiltIns.{node, atoms_of}
use Rattle.cd_regex.specs.Regular.{Regular, Regulars, NoRegular, ARegular, Nothing, Item, Seq, Alt}
use Rattle.cd_regex.specs.Regular.{Star, Plus, Opt, items_in}
use Rattle.cd_regex.specs.declared.follow.Edge.{Edge}

-- what may follow in a state: the items that lead to other states, and whether the state is
-- accepting
pub record Follow : Type 0 where
  pub edges : List Edge
  pub accepting : Bool

-- whether no item at all fits
abbrev mutual
  pub nullable : Regular → Bool
  nullable Nothing = true
  nullable (Item id) = false
  nullable (Seq all) = all_nullable all
  nullable (Alt all) = one_nullable all
  nullable (Star is) = true
  nullable (Plus is) = nullable is
  nullable (Opt is) = true

  pub all_nullable : Regulars → Bool
  all_nullable NoRegular = true
  all_nullable (ARegular first rest) = nullable first && all_nullable rest

  pub one_nullable : Regulars → Bool
  one_nullable NoRegular = false
  one_nullable (ARegular first rest) = nullable first || one_nullable rest

-- these edges where it is so, and else none
abbrev pub edges_if : Bool → List Edge → List Edge
edges_if true edges = edges
edges_if false edges = []

-- the first edges: those to the items that may come first
abbrev mutual
  pub first_edges : Regular → ℕ → List Edge
  first_edges Nothing before = []
  first_edges (Item id) before = record { item = id; to = node (before + 1) } ∷ []
  first_edges (Seq all) before = first_edges_in_turn all before
  first_edges (Alt all) before = first_edges_of_one all before
  first_edges (Star is) before = first_edges is before
  first_edges (Plus is) before = first_edges is before
  first_edges (Opt is) before = first_edges is before

  pub first_edges_in_turn : Regulars → ℕ → List Edge
  first_edges_in_turn NoRegular before = []
  first_edges_in_turn (ARegular first rest) before =
      first_edges first before
      ++ edges_if (nullable first) (first_edges_in_turn rest (before + items_in first))

  pub first_edges_of_one : Regulars → ℕ → List Edge
  first_edges_of_one NoRegular before = []
  first_edges_of_one (ARegular first rest) before =
      first_edges first before ++ first_edges_of_one rest (before + items_in first)

-- what follows at the end, before all of these in turn, and after one of many turns
abbrev pub finish : Follow
finish = record { edges = []; accepting = true }

abbrev pub before_all : Regulars → ℕ → Follow → Follow
before_all all before follow = record {
  edges = first_edges_in_turn all before ++ edges_if (all_nullable all) follow.edges;
  accepting = all_nullable all && follow.accepting;
}

abbrev pub after_turn : Regular → ℕ → Follow → Follow
after_turn is before follow =
    record { edges = first_edges is before ++ follow.edges; accepting = follow.accepting }

-- the states after each of its items
abbrev mutual
  pub states : Regular → ℕ → Follow → List Follow
  states Nothing before follow = []
  states (Item id) before follow = follow ∷ []
  states (Seq all) before follow = states_in_turn all before follow
  states (Alt all) before follow = states_of_one all before follow
  states (Star is) before follow = states is before (after_turn is before follow)
  states (Plus is) before follow = states is before (after_turn is before follow)
  states (Opt is) before follow = states is before follow

  pub states_in_turn : Regulars → ℕ → Follow → List Follow
  states_in_turn NoRegular before follow = []
  states_in_turn (ARegular first rest) before follow =
      states first before (before_all rest (before + items_in first) follow)
      ++ states_in_turn rest (before + items_in first) follow

  pub states_of_one : Regulars → ℕ → Follow → List Follow
  states_of_one NoRegular before follow = []
  states_of_one (ARegular first rest) before follow =
      states first before follow ++ states_of_one rest (before + items_in first) follow

-- the state to start in, which has the number that is given, and then all others
abbrev pub start : Regular → ℕ → Follow
start is before = record { edges = first_edges is before; accepting = nullable is }

abbrev pub all_states : Regular → ℕ → List Follow
all_states is before = start is before ∷ states is before finish

-- the formula of a state: an item and then what comes after it, or the end
abbrev pub edge_formula : Edge → Formula
edge_formula edge = Pair edge.item edge.to

abbrev pub end_formulas : Bool → List Formula
end_formulas true = atoms_of (codes "nil" ∷ []) ∷ []
end_formulas false = []

abbrev pub state_formula : Follow → Formula
state_formula follow =
    Or (formulas_of (map edge_formula follow.edges ++ end_formulas follow.accepting))

-- the formulas of all states, from the node of this number on
abbrev pub sequence_formulas : ℕ → Regular → List Formula
sequence_formulas first is = map state_formula (all_states is first)
