-- As many names to use up as all interfaces of a program have are enough for each type of each of them.
use Rattle.std.proofs.Common.{◌≡◌, ◌+◌, ◌≤◌, ◌==◌, ℕ, Bool, true, false, List, [], ◌∷◌, Some, if◌then◌else◌, subst, arith}
use Rattle.std.proofs.lemmas.Option.{none-some, same_Some}
use Rattle.cd_model.specs.AllOf.{AllOf}
use Rattle.cd_model.specs.Scope.{Scope}
use Rattle.cd_model.specs.Written.{number_of_names}
use Rattle.cd_matching.specs.WrittenPattern.{in_scope}
use Rattle.cd_program.specs.Expr.{Signature, FunctionTree, Program}
use Rattle.cd_typing.specs.Typed.{scope_of}
use Rattle.cd_evaluation.specs.Code.{place_of}
use Rattle.cd_evaluation.specs.ProgramFunctions.{all_functions, first_at, function_at}
use Rattle.cd_evaluation.specs.ProgramInterfaces.{interface_of, names_in_interface, names_in_interfaces, IsEnoughFor, count_of}

-- a fact of all functions is one of the function that is found at a place
pub of_found : (Fact : FunctionTree → Type 0) (functions : List FunctionTree) → AllOf Fact functions → (at : ℕ) (f : FunctionTree)
    → first_at functions at ≡ Some f → Fact f
of_found Fact [] all at f found = absurd (none-some f found)
of_found Fact (one ∷ rest) all at f found = by_test (place_of one == at) found (of_found Fact rest all.1 at f)
  where
    by_test : (is : Bool) → (if is then Some one else first_at rest at) ≡ Some f → (first_at rest at ≡ Some f → Fact f) → Fact f
    by_test true same later = subst Fact (same_Some one f same) all.0
    by_test false same later = later same

module _ (scope : Scope) where
  interface_enough : (signatures : List Signature) (count : ℕ) → names_in_interface scope signatures ≤ count
      → IsEnoughFor scope count signatures
  interface_enough [] count most = tt
  interface_enough (signature ∷ rest) count most =
      let takes : ℕ = number_of_names (in_scope scope signature.takes) in
      let gives : ℕ = number_of_names (in_scope scope signature.gives) in
      let more : ℕ = names_in_interface scope rest in
      let all : takes + (gives + more) ≤ count = most in
      ((omega (arith, all), omega (arith, all)), interface_enough rest count (omega (arith, all)))

  interfaces_enough : (functions : List FunctionTree) (count : ℕ) → names_in_interfaces scope functions ≤ count
      → AllOf (λ f. IsEnoughFor scope count (interface_of f)) functions
  interfaces_enough [] count most = tt
  interfaces_enough (f ∷ rest) count most =
      let one : ℕ = names_in_interface scope (interface_of f) in
      let more : ℕ = names_in_interfaces scope rest in
      let all : one + more ≤ count = most in
      (interface_enough (interface_of f) count (omega (arith, all)), interfaces_enough rest count (omega (arith, all)))

module _ (program : Program) where
  pub count_is_enough : AllOf (λ f. IsEnoughFor (scope_of program) (count_of program) (interface_of f)) (all_functions program)
  count_is_enough = interfaces_enough (scope_of program) (all_functions program) (count_of program) (omega arith)

  pub count_is_enough_at : (at : ℕ) (f : FunctionTree) → function_at program at ≡ Some f
      → IsEnoughFor (scope_of program) (count_of program) (interface_of f)
  count_is_enough_at = of_found (λ f. IsEnoughFor (scope_of program) (count_of program) (interface_of f)) (all_functions program)
      count_is_enough
