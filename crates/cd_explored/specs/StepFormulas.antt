-- Formulas for steps: what holds in a graph what a question asks, and what holds one thing alone.
use Rattle.std.specs.Prelude.{◌≡◌, ◌↔◌, ◌++◌, true}
use Rattle.cd_model.specs.Formula.{Graph, Formula, IsGraph, at_formula, holds}
use Rattle.cd_model.specs.Formula.{nodes}
use Rattle.cd_model.specs.Interfaces.{Interfaces, value_reader}
use Rattle.cd_model.specs.Thing.{Thing, IsElement, IsValue}
use Rattle.cd_model.specs.Types.{no_closure, reader}
use Rattle.cd_products.specs.Products.{AreInterfacesOf}

module _ (graph : Graph) where
  -- here and in each longer graph the formula holds this thing alone
  pub record HoldsAlone (d : Thing) (f : Formula) : Type 0 where
    pub elements : (e : Thing) → IsElement e
        → holds (at_formula (reader (nodes graph) no_closure e)) f true ↔ (e ≡ d)
    pub values : (more : Graph) (interfaces : Interfaces) (v : Thing) → IsGraph (graph ++ more)
        → AreInterfacesOf (graph ++ more) interfaces → IsValue v
        → holds (at_formula (value_reader (graph ++ more) interfaces v)) f true ↔ (v ≡ d)
