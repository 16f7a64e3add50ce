-- The code of a program: its functions by their places and names, and what its patterns take.
use Rattle.std.specs.Prelude.{◌≡◌, Bool, Option, None, option_map, ◌⊎◌}
use Rattle.cd_syntax.specs.Name.{Name}
use Rattle.cd_syntax.specs.TypeTree.{Tree}
use Rattle.cd_model.specs.Interfaces.{Interfaces, value_in_written}
use Rattle.cd_model.specs.Scope.{Scope}
use Rattle.cd_model.specs.Thing.{Thing, IsValue}
use Rattle.cd_matching.specs.Captures.{Captures}
use Rattle.cd_matching.specs.Pattern.{Pattern}
use Rattle.cd_matching.specs.PatternsAlike.{Alike}
use Rattle.cd_matching.specs.Takes.{IsRight, WrittenValueTakes}
use Rattle.cd_matching.specs.WrittenPattern.{pattern_of}
use Rattle.cd_program.specs.Expr.{Program}
use Rattle.cd_names.specs.ProgramFaults.{names_of}
use Rattle.cd_typing.specs.Typed.{scope_of}
use Rattle.cd_evaluation.specs.Environment.{Env, captured_env}
use Rattle.cd_evaluation.specs.Code.{Code}
use Rattle.cd_evaluation.specs.ProgramFunctions.{function_at, declared_at}
use Rattle.cd_evaluation.specs.ProgramInterfaces.{interfaces_of}

-- what a pattern captures makes an environment of the names that it binds, in the order of the text
abbrev pub answer_of : Tree → Option (Captures Name) → Option Env
answer_of pattern result =
    option_map (λ captures. captured_env (names_of pattern) captures) result

module _ (interfaces : Interfaces) (scope : Scope) where
  -- a value is taken as the pattern means it, and a thing that is no value is not taken
  abbrev pub TakesAs : (pattern : Tree) → Thing → Option Env → Type 0
  TakesAs pattern v answer = (IsValue v × (result : Option (Captures Name))
      × WrittenValueTakes interfaces scope pattern v result × (answer ≡ answer_of pattern result))
      ⊎ ((IsValue v → ⊥) × (answer ≡ None))

  -- the types of a pattern have tests that are right for all values
  abbrev pub HasTests : (pattern : Tree) → Type 0
  HasTests pattern = (tested : Pattern (Thing → Bool))
      × Alike (IsRight (value_in_written interfaces) IsValue) (pattern_of scope pattern) tested

abbrev pub code_of : Program → Code
code_of program = record {
  function = function_at program;
  declared = declared_at program;
  take = TakesAs (interfaces_of program) (scope_of program);
}
