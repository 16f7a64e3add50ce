-- Tests that are right.
use Rattle.std.specs.Prelude.{◌≡◌, ℕ, ◌++◌}
use Rattle.cd_model.specs.BuiltIns.{built_ins}
use Rattle.cd_model.specs.Formula.{Graph}
use Rattle.cd_model.specs.Interfaces.{Interfaces}
use Rattle.cd_asking.specs.MappedArrows.{MapsRight}
use Rattle.cd_asking.specs.Mappings.{Mappings}

-- the graph begins with the built-in nodes, and a table says of the closures of each function which
-- arrows of the graph they are in
pub record AreTested (graph : Graph) (interfaces : Interfaces) (maps : Mappings) : Type 0 where
  pub begins : (more : Graph) × (graph ≡ built_ins ++ more)
  pub maps_right : (function : ℕ) → MapsRight graph interfaces maps function
