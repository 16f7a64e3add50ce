-- The names that types cannot be declared with, since built-in types have them.
use Rattle.std.specs.Prelude.{Bool, List, bytes_eq, is_some}
use Rattle.std.specs.List.{list_any}
use Rattle.cd_syntax.specs.Name.{Name}
use Rattle.cd_tables.specs.Rows.{row_of}
use Rattle.cd_tables.specs.Words.{type_names}

-- the name is one of these
abbrev pub is_among : List Name → Name → Bool
is_among names name = list_any (bytes_eq name) names

-- opaque, since it would unfold into each goal
unfoldable pub is_builtin : Name → Bool
is_builtin name = is_some (row_of type_names name)
