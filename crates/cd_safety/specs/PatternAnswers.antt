-- What the answer of a pattern says of a value.
use Rattle.std.specs.Prelude.{◌≡◌, Option, Some, None}
use Rattle.cd_syntax.specs.Name.{Name}
use Rattle.cd_syntax.specs.TypeTree.{Tree}
use Rattle.cd_model.specs.Interfaces.{Interfaces}
use Rattle.cd_model.specs.Scope.{Scope}
use Rattle.cd_model.specs.Thing.{Thing, IsValue}
use Rattle.cd_matching.specs.Captures.{Captures}
use Rattle.cd_matching.specs.Takes.{WrittenValueTakes}
use Rattle.cd_evaluation.specs.Code.{Code}
use Rattle.cd_evaluation.specs.Environment.{Env}

-- `env_of` makes an environment of what a pattern captures
module _ (interfaces : Interfaces) (scope : Scope) (env_of : Tree → Captures Name → Env) where
  -- the pattern fails, or takes the value, and what it captures makes this environment
  abbrev pub Says : (pattern : Tree) → Thing → Option Env → Type 0
  Says pattern v None = WrittenValueTakes interfaces scope pattern v None
  Says pattern v (Some env) = (captures : Captures Name)
      × WrittenValueTakes interfaces scope pattern v (Some captures)
      × (env ≡ env_of pattern captures)

  -- the code takes values as written patterns mean it
  abbrev pub TakesAsWritten : Code → Type 0
  TakesAsWritten code = (pattern : Tree) (v : Thing) (answer : Option Env) → IsValue v
      → code.take pattern v answer → Says pattern v answer
