-- The names and the scope level that a walk of the code sees from outside, as plain data.
use Rattle.std.specs.Prelude.{List, [], ◌∷◌, ◌++◌}
use Rattle.std.specs.Option.{option_map, unwrap_or}
use Rattle.cd_sets.specs.declared.node_id.NodeId.{NodeId}
use Rattle.cd_syntax.specs.Name.{Name}
use Rattle.cd_syntax.specs.PlainTree.{plain_declarations}
use Rattle.cd_resolve.specs.Inner.Finding.{ScopeLevels}
use Rattle.cd_resolve.specs.Inner.Names.{numbered}
use Rattle.cd_resolve.specs.Inner.PlainFound.{list_level, list_levels}
use Rattle.cd_resolve.specs.declared.base.Base.{Base}
use Rattle.cd_resolve.specs.declared.scope_level.ScopeLevel.{ScopeLevel}

-- the names of a level of the code, with their nodes
abbrev pub names_of : ScopeLevel → List (Name × NodeId)
names_of level = numbered level.first (plain_declarations level.declarations.now)

abbrev pub names_outside : Base → List (Name × NodeId)
names_outside base = unwrap_or (option_map (λ level. names_of level.now) base.outer) []

abbrev pub lists_outside : Base → ScopeLevels
lists_outside base = unwrap_or (option_map (λ level. list_level level.now ∷ []) base.outer) []

-- the levels that a tree under these sees
abbrev pub lists_seen : Base → List ScopeLevel → ScopeLevels
lists_seen base levels = list_levels levels ++ lists_outside base
