-- The interfaces of the functions of a program, as written types.
use Rattle.std.specs.Prelude.{ℕ, ◌+◌, ◌≤◌, List, [], ◌∷◌, map, Option, Some, None}
use Rattle.cd_model.specs.AllOf.{AllOf}
use Rattle.cd_model.specs.Interfaces.{ArrowOf, Interfaces, OfWritten}
use Rattle.cd_model.specs.Scope.{Scope}
use Rattle.cd_model.specs.Written.{WrittenType, number_of_names, type_of}
use Rattle.cd_matching.specs.WrittenPattern.{in_scope}
use Rattle.cd_program.specs.Expr.{Signature, FunctionTree, function, Program}
use Rattle.cd_typing.specs.Typed.{scope_of}
use Rattle.cd_evaluation.specs.ProgramFunctions.{all_functions, function_at}

abbrev pub interface_of : FunctionTree → List Signature
interface_of (function at name name_at interface branches) = interface

module _ (scope : Scope) where
  -- an arrow as it is written
  abbrev pub written_arrow : Signature → ArrowOf WrittenType
  written_arrow signature = record {
    argument = type_of (in_scope scope signature.takes);
    result = type_of (in_scope scope signature.gives);
  }

  -- how many names all types of an interface may lead to, and all types of some interfaces
  abbrev pub names_in_interface : List Signature → ℕ
  names_in_interface [] = 0
  names_in_interface (signature ∷ rest) = number_of_names (in_scope scope signature.takes)
      + (number_of_names (in_scope scope signature.gives) + names_in_interface rest)

  abbrev pub names_in_interfaces : List FunctionTree → ℕ
  names_in_interfaces [] = 0
  names_in_interfaces (f ∷ rest) = names_in_interface (interface_of f) + names_in_interfaces rest

  -- so many names to use up are enough for each type of an interface
  abbrev pub IsEnoughFor : (count : ℕ) → List Signature → Type 0
  IsEnoughFor count interface = AllOf
      (λ signature. (number_of_names (in_scope scope signature.takes) ≤ count)
      × (number_of_names (in_scope scope signature.gives) ≤ count)) interface

  abbrev pub arrows_of : Option FunctionTree → List (ArrowOf WrittenType)
  arrows_of None = []
  arrows_of (Some f) = map written_arrow (interface_of f)

-- as many names to use up as all interfaces have
abbrev pub count_of : Program → ℕ
count_of program = names_in_interfaces (scope_of program) (all_functions program)

-- a number that is the place of no function has no arrow
abbrev pub interfaces_of : Program → Interfaces
interfaces_of program =
    OfWritten (count_of program) (λ at. arrows_of (scope_of program) (function_at program at))
