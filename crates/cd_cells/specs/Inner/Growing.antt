-- The lists beside the cells only grow.
use Rattle.std.specs.Prelude.{◌≡◌, ℤ, List, ◌++◌}
use Rattle.cd_syntax.specs.Name.{Name}
use Rattle.cd_cells.specs.declared.cell.Part.{Part}
use Rattle.cd_cells.specs.declared.lists.Lists.{Lists}

-- more names, integers and fields may stand after those of old
pub record ListsGrow (old new : Lists) : Type 0 where
  pub names : (more : List Name) × (new.names ≡ old.names ++ more)
  pub wide : (more : List ℤ) × (new.wide.items ≡ old.wide.items ++ more)
  pub parts : (more : List Part) × (new.parts.items ≡ old.parts.items ++ more)
