-- What is known of the graph of a world while the entries of functions are added.
use Rattle.std.specs.Prelude.{◌≡◌, ◌++◌, List, length}
use Rattle.cd_model.specs.AllOf.{AllOf}
use Rattle.cd_model.specs.Formula.{Graph, IsGraph}
use Rattle.cd_model.specs.Scope.{Scope}
use Rattle.cd_program.specs.Expr.{FunctionTree}
use Rattle.cd_asking.specs.Mappings.{Mappings}
use Rattle.cd_closures.specs.Inner.Asked.{IsBelow}
use Rattle.cd_closures.specs.Inner.Tables.{IsTable}
use Rattle.cd_closures.specs.declared.asked.Asked.{Asked}

-- it begins with a sound graph, whose nodes these arrows are between
pub record Begins (graph longer : Graph) (asked : List Asked) : Type 0 where
  pub more : Graph
  pub grown : longer ≡ graph ++ more
  pub sound : IsGraph graph
  pub below : AllOf (λ one. IsBelow (length graph) one.arrow) asked

-- Of functions, of which some are left before and after, a table that was right is right of those
-- that were added since
abbrev pub AddsFunctions : (longer : Graph) → Scope → List Asked
    → (before after : List FunctionTree) → (old new : Mappings) → Type 0
AddsFunctions longer scope asked before after old new = (graph : Graph) (all : List FunctionTree)
    → Begins graph longer asked → IsTable graph scope asked all before old
    → IsTable graph scope asked all after new
