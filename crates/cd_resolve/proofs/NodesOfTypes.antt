-- Which nodes stand for which written types: those that have the equations of the types.
use Rattle.std.proofs.Common.{ℕ, List, []}
use Rattle.cd_sets.specs.declared.node_id.NodeId.{NodeId}
use Rattle.cd_syntax.specs.Name.{Name}
use Rattle.cd_syntax.specs.TypeTree as type
use Rattle.cd_syntax.specs.TypeTree.{Tree, tree, Kind}
use Rattle.cd_model.specs.Scope.{Scope, Declared}
use Rattle.cd_model.specs.Written as written
use Rattle.cd_model.specs.Written.{WrittenType, kind_of, within}
use Rattle.cd_model.proofs.Covered.{Covered}
use Rattle.cd_shared.specs.Equation.{Equations}
use Rattle.cd_resolve.specs.Inner.Equates.{Equates, EquatesKind, AllEquated}
use Rattle.cd_resolve.specs.Inner.ScopeLevels.{ScopeLevels, scope_of}

-- a form in which no name can stand, which is the same in each scope
abbrev pub IsAlone : Kind → Type 0
IsAlone (type.Builtin name) = Unit {0}
IsAlone (type.Chars low high) = Unit {0}
IsAlone (type.Text text) = Unit {0}
IsAlone kind = ⊥

-- the equations of a tree are those of its form
pub of_tree : (first : ℕ) (equations : Equations) (names : List (Name × NodeId)) (levels : ScopeLevels) (is : Tree)
    (id : NodeId)
    → Equates first equations names levels is id → EquatesKind first equations names levels (kind_of is) id
of_tree first equations names levels (tree span kind) id equates = equates

module _ (first : ℕ) (equations : Equations) (names : List (Name × NodeId)) (base : Scope)
    (Fact : Declared → Type 0) where
  -- a node that has the equations of a form, under levels whose names have theirs, where each declared name has the fact
  pub record IsOf (levels : ScopeLevels) (kind : Kind) (id : NodeId) : Type 0 where
    pub around : AllEquated first equations names levels
    pub equates : EquatesKind first equations names levels kind id
    pub covered : Covered Fact (scope_of base levels) kind

  pub data Stands : NodeId → WrittenType → Type 0 where
    placed : (levels : ScopeLevels) (kind : Kind) (id : NodeId) → IsOf levels kind id
        → Stands id (record { scope = scope_of base levels; kind = kind })
    alone : (kind : Kind) (id : NodeId) → IsAlone kind → EquatesKind first equations names [] kind id
        → Stands id (written.alone kind)

  -- the node of a part
  pub part_stands : (levels : ScopeLevels) (is : Tree) (id : NodeId) → AllEquated first equations names levels
      → Equates first equations names levels is id
      → Covered Fact (scope_of base levels) (kind_of is) → Stands id (within (scope_of base levels) is)
  part_stands levels is id around equates covered = placed levels (kind_of is) id (record {
    around = around;
    equates = of_tree first equations names levels is id equates;
    covered = covered;
  })
