-- All ways end from each equation that comes from a tree whose names are guarded.
use Rattle.std.proofs.Common.{ℕ, ◌+◌, ◌<◌, ◌≤◌, List, length, sym, subst}
use Rattle.cd_sets.specs.declared.node_id.NodeId.{NodeId}
use Rattle.cd_syntax.specs.Name.{Name}
use Rattle.cd_model.specs.AllOf.{AllOf}
use Rattle.cd_model.specs.BuiltIns.{node}
use Rattle.cd_model.specs.Guarded.{IsGuarded}
use Rattle.cd_model.specs.Scope.{Scope, Declared}
use Rattle.cd_model.proofs.Leading.{IsIn}
use Rattle.cd_resolve.specs.Inner.Names.{AreBelow}
use Rattle.cd_shared.specs.Equation.{Equations, Is, Same}
use Rattle.cd_resolve.specs.Inner.Links.{links}
use Rattle.cd_resolve.specs.Inner.Order.{Ends}
use Rattle.cd_resolve.proofs.EndsOfLists.{ends_by_row}
use Rattle.cd_resolve.proofs.EndsOfNames.{node_ends, node_of_tree_ends}
use Rattle.cd_resolve.proofs.EndsOfTrees.{number_ends}
use Rattle.cd_resolve.proofs.LinksRows.{has_number, row_of_none}
use Rattle.cd_resolve.proofs.Origins.{HasOrigin}

module _ (first : ℕ) (equations : Equations) (names : List (Name × NodeId)) (base : Scope)
    (nodes : ℕ) (built_in : 14 ≤ nodes) (old : nodes ≤ first) (below : AreBelow nodes names)
    (Fact : Declared → Type 0) (guards : (is : Declared) → Fact is → IsGuarded is)
    (seen : List Declared) (among : (is : Declared) → Fact is → IsIn is seen) where
  -- where an equation comes from says that all ways from it end
  origin_ends : (number : ℕ) → HasOrigin first equations names base Fact number → Ends (links first equations) number
  origin_ends number (HasOrigin.unread _ at) = ends_by_row (links first equations) number
      (subst (AllOf (Ends (links first equations))) (sym (row_of_none first equations number at)) tt)
  origin_ends number (HasOrigin.formula _ is at) = number_ends first equations number (Is is) at tt
  origin_ends number (HasOrigin.part _ levels kind lists equated covered) =
      has_number first (Ends (links first equations)) number
      (node_ends first equations names base nodes built_in old below Fact guards seen among levels kind
      (node (first + number)) lists equated covered)
  origin_ends number (HasOrigin.name _ root levels is at lists equated covered) =
      number_ends first equations number (Same root) at
      (node_of_tree_ends first equations names base nodes built_in old below Fact guards seen among levels is root
      lists equated covered)

  -- and so they end from all
  pub all_end : ((number : ℕ) → number < length equations → HasOrigin first equations names base Fact number)
      → (number : ℕ) → number < length equations → Ends (links first equations) number
  all_end origins number less = origin_ends number (origins number less)
