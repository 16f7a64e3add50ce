-- The names of functions.
use Rattle.std.specs.Prelude.{ℕ, Bool, false, List, [], ◌∷◌, Some, None, codes, bytes_eq}
use Rattle.cd_syntax.specs.Name.{Name}
use Rattle.cd_program.specs.Expr.{FunctionTree, function}

abbrev pub function_names : List FunctionTree → List Name
function_names [] = []
function_names (function at None name_at interface branches ∷ rest) = function_names rest
function_names (function at (Some name) name_at interface branches ∷ rest) =
    name ∷ function_names rest

-- where the word `fun` stands
abbrev pub begins_at : FunctionTree → ℕ
begins_at (function at name name_at interface branches) = at

abbrev pub is_main : FunctionTree → Bool
is_main (function at None name_at interface branches) = false
is_main (function at (Some name) name_at interface branches) = bytes_eq name (codes "main")
