-- A fact of all functions is one of each that is found by its name.
use Rattle.std.proofs.Common.{◌≡◌, ℕ, Bool, true, false, List, [], ◌∷◌, Some, if◌then◌else◌, refl}
use Rattle.std.proofs.lemmas.Option.{none-some, same_Some}
use Rattle.cd_syntax.specs.Name.{Name}
use Rattle.cd_model.specs.AllOf.{AllOf}
use Rattle.cd_program.specs.Expr.{FunctionTree}
use Rattle.cd_evaluation.specs.Code.{place_of}
use Rattle.cd_evaluation.specs.ProgramFunctions.{has_name, first_named}

pub record IsNamed (fact : FunctionTree → Type 0) (name : Name) (place : ℕ) : Type 0 where
  pub f : FunctionTree
  pub at_place : place_of f ≡ place
  pub has_its_name : has_name name f ≡ true
  pub is : fact f

pub of_named : (fact : FunctionTree → Type 0) (functions : List FunctionTree) → AllOf fact functions → (name : Name) (place : ℕ)
    → first_named functions name ≡ Some place → IsNamed fact name place
of_named fact [] each name place found = absurd (none-some place found)
of_named fact (f ∷ rest) each name place found =
    by_test (has_name name f) refl found (of_named fact rest each.1 name place)
  where
    by_test : (c : Bool) → has_name name f ≡ c → (if c then Some (place_of f) else first_named rest name) ≡ Some place
        → (first_named rest name ≡ Some place → IsNamed fact name place) → IsNamed fact name place
    by_test true is same later =
        record { f = f; at_place = same_Some (place_of f) place same; has_its_name = is; is = each.0 }
    by_test false is same later = later same
