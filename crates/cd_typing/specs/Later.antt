-- Graphs that begin with others.
use Rattle.std.specs.Prelude.{◌≡◌, ◌++◌}
use Rattle.cd_model.specs.Formula.{Graph, IsGraph}

-- a sound graph that begins with another one
pub record IsLater (graph later : Graph) : Type 0 where
  pub more : Graph
  pub is : later ≡ graph ++ more
  pub sound : IsGraph later
