-- The variables of a kernel that are among some names, and the environment of what they capture.
use Rattle.std.specs.Prelude.{ℕ, List, [], ◌∷◌, Option, Some, None}
use Rattle.cd_syntax.specs.Name.{Name}
use Rattle.cd_matching.specs.Captures.{Captures}
use Rattle.cd_matching.specs.Kernel.{number_of}
use Rattle.cd_evaluation.specs.Environment.{Env, with_capture}
use Rattle.cd_model.specs.Thing.{NoField}

-- the number of a variable before those of others, if there is one
abbrev pub with_number : Name → Option ℕ → List (ℕ × Name) → List (ℕ × Name)
with_number name None rest = rest
with_number name (Some number) rest = (number, name) ∷ rest

-- of some names those that are variables, each with its number
abbrev pub numbered : List Name → List Name → List (ℕ × Name)
numbered variables [] = []
numbered variables (name ∷ names) =
    with_number name (number_of variables name) (numbered variables names)

-- what they capture; a variable that captures nothing is left out
abbrev pub env_by : List (ℕ × Name) → Captures ℕ → Env
env_by [] captures = NoField
env_by (one ∷ rest) captures = with_capture one.1 (captures one.0) (env_by rest captures)
