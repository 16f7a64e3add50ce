-- Graphs, and interfaces as the functions of programs have them: each value is in a node or
-- outside.
use Rattle.std.specs.Prelude.{◌≡◌, ◌++◌}
use Rattle.cd_model.specs.BuiltIns.{built_ins}
use Rattle.cd_model.specs.Formula.{Graph, IsGraph}
use Rattle.cd_model.specs.Interfaces.{Interfaces}
use Rattle.cd_products.specs.Products.{AreInterfacesOf}

-- the arrows may be nodes that are put in later
pub record AreOfProgram (graph : Graph) (interfaces : Interfaces) : Type 0 where
  pub others : Graph
  pub built_in : graph ≡ built_ins ++ others
  pub sound : IsGraph graph
  pub later : Graph
  pub still_sound : IsGraph (graph ++ later)
  pub arrows : AreInterfacesOf (graph ++ later) interfaces
