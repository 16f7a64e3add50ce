-- The function `main`, as the code finds it.
use Rattle.std.proofs.Common.{◌≡◌, ℕ, Bool, true, false, List, [], ◌∷◌, Option, Some, None, inl, inr, sym, ap, ◌==◌, ◌∙◌}
use Rattle.std.specs.Prelude.{IfSome, codes, option_map, if◌then◌else◌}
use Rattle.std.proofs.lemmas.Option.{none-some, same_Some}
use Rattle.cd_model.specs.AllOf.{AnyOf}
use Rattle.cd_program.specs.Expr.{FunctionTree, Program}
use Rattle.cd_evaluation.specs.Code.{place_of}
use Rattle.cd_evaluation.specs.ProgramFunctions.{first_at, function_at, declared_at}
use Rattle.cd_safety.specs.SafeProgram.{IsMain}

module _ (program : Program) where
  -- what stands at the place of `main` is this function
  pub found : (at : ℕ) (f : Option FunctionTree) → Some at ≡ declared_at program (codes "main") → f ≡ function_at program at
      → (main : FunctionTree) → IsMain program main → f ≡ Some main
  found at f declared is main main_is =
      is ∙ ap (function_at program) (same_Some _ _ (declared ∙ main_is.declared)) ∙ main_is.found

  pub not_found : None ≡ declared_at program (codes "main") → (main : FunctionTree) → IsMain program main → ⊥
  not_found declared main main_is = none-some (place_of main) (declared ∙ main_is.declared)

-- a function at a place is one of them
found_among : (functions : List FunctionTree) (at : ℕ) (f : FunctionTree) → Some f ≡ first_at functions at → AnyOf (λ one. one ≡ f) functions
found_among [] at f is = absurd (none-some f (sym is))
found_among (one ∷ rest) at f is = by_place (place_of one == at) is (found_among rest at f)
  where
    by_place : (same : Bool) → Some f ≡ (if same then Some one else first_at rest at) → (Some f ≡ first_at rest at → AnyOf (λ other. other ≡ f) rest)
        → AnyOf (λ other. other ≡ f) (one ∷ rest)
    by_place true same on = inl (sym (same_Some _ _ same))
    by_place false same on = inr (on same)

pub all_among : {X : Type 0} (plain : X → FunctionTree) (found : Option X) (functions : List FunctionTree) (at : ℕ)
    → option_map plain found ≡ first_at functions at → IfSome found (λ f. AnyOf (λ one. one ≡ plain f) functions)
all_among plain None functions at is = tt
all_among plain (Some f) functions at is = found_among functions at (plain f) is
