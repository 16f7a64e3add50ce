-- Where equations come from: a formula, a connective of a tree that was walked over, or a declared name.
use Rattle.std.proofs.Common.{◌≡◌, ℕ, ◌+◌, List, Some, None}
use Rattle.std.specs.List.{slice_get}
use Rattle.cd_sets.specs.declared.node_id.NodeId.{NodeId}
use Rattle.cd_syntax.specs.Name.{Name}
use Rattle.cd_syntax.specs.TypeTree.{Tree, Kind}
use Rattle.cd_model.specs.BuiltIns.{node}
use Rattle.cd_model.specs.Formula.{Formula}
use Rattle.cd_model.specs.Scope.{Scope, Declared}
use Rattle.cd_model.specs.Written.{kind_of}
use Rattle.cd_model.proofs.Covered.{Covered}
use Rattle.cd_shared.specs.Equation.{Equations, Is, Same}
use Rattle.cd_resolve.specs.Inner.ScopeLevels.{ScopeLevels, scope_of}
use Rattle.cd_resolve.specs.Inner.Equates.{Equates, EquatesKind, AllEquated}

-- The equations are those of the nodes from the first number on, names that no list declares have these nodes, and each
-- name that is declared has the fact
pub data HasOrigin (first : ℕ) (equations : Equations) (names : List (Name × NodeId)) (base : Scope)
    (Fact : Declared → Type 0) : ℕ → Type 0 where
  unread : (number : ℕ) → slice_get equations number ≡ Some None → HasOrigin first equations names base Fact number
  formula : (number : ℕ) (is : Formula) → slice_get equations number ≡ Some (Some (Is is))
      → HasOrigin first equations names base Fact number
  part : (number : ℕ) (levels : ScopeLevels) (kind : Kind) → AllEquated first equations names levels
      → EquatesKind first equations names levels kind (node (first + number)) → Covered Fact (scope_of base levels) kind
      → HasOrigin first equations names base Fact number
  name : (number : ℕ) (root : NodeId) (levels : ScopeLevels) (is : Tree)
      → slice_get equations number ≡ Some (Some (Same root)) → AllEquated first equations names levels
      → Equates first equations names levels is root → Covered Fact (scope_of base levels) (kind_of is)
      → HasOrigin first equations names base Fact number
