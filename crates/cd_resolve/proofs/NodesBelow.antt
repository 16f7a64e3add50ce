-- The node that a walk gives is below the node of the next equation, where the lists round it stand before.
use Rattle.std.proofs.Common.{ℕ, ◌+◌, ◌<◌, ◌≤◌, List, ◌∷◌, length, arith}
use Rattle.cd_sets.specs.declared.node_id.NodeId.{NodeId}
use Rattle.cd_syntax.specs.Name.{Name}
use Rattle.cd_syntax.specs.TypeTree as type
use Rattle.cd_syntax.specs.TypeTree.{Tree, Declarations}
use Rattle.cd_model.specs.AllOf.{AllOf}
use Rattle.cd_model.proofs.Ones.{each_weaker}
use Rattle.cd_regex.specs.Regular.{AsksBelow}
use Rattle.cd_resolve.specs.Inner.Names.{AreBelow}
use Rattle.cd_shared.specs.Equation.{Equations}
use Rattle.cd_resolve.specs.Inner.ScopeLevels.{ScopeLevel, ScopeLevels, number_in}
use Rattle.cd_resolve.specs.Inner.Walk.{level_after, walked, walked_regular}
use Rattle.cd_resolve.proofs.NodesOfWalks.{IsOfNodes, HasNodes, HaveNodes, tree_has, regular_asks}

-- the nodes of the names of these levels are before that of the next equation
abbrev pub IsBefore : (first : ℕ) → Equations → ScopeLevel → Type 0
IsBefore first s level = level.first + number_in level.declarations ≤ first + length s

abbrev pub AreBefore : (first : ℕ) → Equations → ScopeLevels → Type 0
AreBefore first s levels = AllOf (IsBefore first s) levels

-- they are so later
pub before_later : (first : ℕ) (s t : Equations) (levels : ScopeLevels) → length s ≤ length t → AreBefore first s levels
    → AreBefore first t levels
before_later first s t levels longer before =
    each_weaker (IsBefore first s) (IsBefore first t) (λ level is. omega arith) levels before

-- and so is the level of a list that is met, once its names have been entered
pub before_inside : (first : ℕ) (s t : Equations) (levels : ScopeLevels) (declarations : Declarations)
    → length s + number_in declarations ≤ length t → AreBefore first s levels
    → AreBefore first t (level_after first declarations s ∷ levels)
before_inside first s t levels declarations longer before =
    (omega arith, before_later first s t levels (omega arith) before)

module _ (first : ℕ) (names : List (Name × NodeId)) (enough : 14 ≤ first) (named : AreBelow first names) where
  abbrev IsBelowNext : ℕ → NodeId → Type 0
  IsBelowNext count id = id.0 < first + count

  below_next : IsOfNodes first names IsBelowNext
  below_next = record {
    grows = λ count more id longer is. omega arith;
    built_in = λ count id is. omega arith;
    named = λ count name id is. let below = named name id is in omega arith;
    numbered = λ count number within. omega arith;
    below = λ count id is. is;
  }

  have_nodes : (s : Equations) (levels : ScopeLevels) → AreBefore first s levels
      → HaveNodes first names IsBelowNext below_next (length s) levels
  have_nodes s levels before =
      each_weaker (IsBefore first s) (HasNodes first names IsBelowNext below_next (length s))
      (λ level is index within. omega arith) levels before

  pub walked_below : (levels : ScopeLevels) (is : Tree) (s : Equations) → AreBefore first s levels
      → (walked first names levels is s).0.0 < first + length (walked first names levels is s).1
  walked_below levels is s before =
      tree_has first names IsBelowNext below_next levels is s (have_nodes s levels before)

  -- so are the nodes that an expression asks for
  pub regular_below : (levels : ScopeLevels) (is : type.Regular) (s : Equations) → AreBefore first s levels
      → AsksBelow (first + length (walked_regular first names levels is s).1) (walked_regular first names levels is s).0
  regular_below levels is s before =
      regular_asks first names IsBelowNext below_next levels is s (have_nodes s levels before)
