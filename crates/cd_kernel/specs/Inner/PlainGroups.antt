-- The groups of the code as plain data.
use Rattle.std.specs.Prelude.{List, map}
use Rattle.cd_syntax.specs.Name.{Name}
use Rattle.cd_kernel.specs.declared.gathering.Group.{Group}

abbrev pub plain_group : Group → List Name
plain_group group = group.names.items

abbrev pub plain_groups : List Group → List (List Name)
plain_groups = map plain_group
