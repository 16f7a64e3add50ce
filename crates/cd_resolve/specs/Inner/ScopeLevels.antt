-- The scope levels that a tree stands under, and the nodes of the names that it sees.
use Rattle.std.specs.Prelude.{ℕ, ◌+◌, List, [], ◌∷◌, ◌++◌, map, Option, Some, None}
use Rattle.std.specs.Option.{unwrap_or}
use Rattle.cd_sets.specs.declared.node_id.NodeId.{NodeId}
use Rattle.cd_syntax.specs.Name.{Name}
use Rattle.cd_syntax.specs.TypeTree.{Declarations, NoDeclaration, ADeclaration}
use Rattle.cd_model.specs.BuiltIns.{EMPTY, node}
use Rattle.cd_model.specs.Scope.{Scope}
use Rattle.cd_resolve.specs.Named.{index_in}
use Rattle.cd_resolve.specs.Inner.Names.{node_of}

-- a scope level: a list of declarations, and the number of the node of its first name; the nodes of
-- the others follow
pub record ScopeLevel : Type 0 where
  pub declarations : Declarations
  pub first : ℕ

-- from the innermost to the outermost
abbrev pub ScopeLevels : Type 0
ScopeLevels = List ScopeLevel

-- what a tree under these sees, where the outermost of them sees `base`
abbrev pub scope_of : Scope → ScopeLevels → Scope
scope_of base levels = map (λ level. level.declarations) levels ++ base

-- the node of a name: of the innermost level that declares it, or the one that it was given. A name
-- without a node holds nothing
abbrev pub declared_or : ℕ → Option ℕ → NodeId → NodeId
declared_or first (Some index) outer = node (first + index)
declared_or first None outer = outer

abbrev pub node_under : List (Name × NodeId) → ScopeLevels → Name → NodeId
node_under names [] name = unwrap_or (node_of names name) EMPTY
node_under names (level ∷ outer) name =
    declared_or level.first (index_in level.declarations name) (node_under names outer name)

-- how many names a list declares
abbrev pub number_in : Declarations → ℕ
number_in NoDeclaration = 0
number_in (ADeclaration name at is rest) = number_in rest + 1
