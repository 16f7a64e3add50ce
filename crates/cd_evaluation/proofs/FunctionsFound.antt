-- Each function of a program is found at its place, where places differ; and a name that has a type is that of a declared function.
use Rattle.std.proofs.Common.{◌≡◌, ◌≢◌, ◌==◌, ◌⊎◌, inl, inr, Bool, true, false, List, [], ◌∷◌, Some, if◌then◌else◌, refl, ap, subst, ◌∙◌}
use Rattle.std.proofs.Common.{bytes_eq}
use Rattle.std.proofs.lemmas.Bool.Decides.{eqb_tells}
use Rattle.std.proofs.lemmas.Option.{none-some, same_Some}
use Rattle.cd_syntax.specs.Name.{Name}
use Rattle.cd_model.specs.AllOf.{AllOf, AnyOf}
use Rattle.cd_model.specs.Scope.{Scope}
use Rattle.cd_program.specs.Expr.{FunctionTree, function, Program}
use Rattle.cd_typing.specs.Typ.{Typ, Types, type_at}
use Rattle.cd_typing.specs.Typed.{IsOfInterface, AreDeclared}
use Rattle.cd_evaluation.specs.Code.{place_of}
use Rattle.cd_evaluation.specs.ProgramFunctions.{all_functions, first_at, function_at, has_name, first_named, PlacesDiffer}

abbrev pub IsFoundIn : List FunctionTree → FunctionTree → Type 0
IsFoundIn functions f = first_at functions (place_of f) ≡ Some f

at_own_place : (f : FunctionTree) (rest : List FunctionTree) → IsFoundIn (f ∷ rest) f
at_own_place f rest = by_places (eqb_tells (place_of f) (place_of f))
  where
    by_places : (((place_of f == place_of f) ≡ true) × (place_of f ≡ place_of f))
        ⊎ (((place_of f == place_of f) ≡ false) × (place_of f ≢ place_of f)) → IsFoundIn (f ∷ rest) f
    by_places (inl is) = ap (λ c. if c then Some f else first_at rest (place_of f)) is.0
    by_places (inr other) = absurd (other.1 refl)

behind_another : (first : FunctionTree) (rest others : List FunctionTree) → AllOf (λ other. place_of first ≢ place_of other) others
    → AllOf (IsFoundIn rest) others → AllOf (IsFoundIn (first ∷ rest)) others
behind_another first rest [] differ found = tt
behind_another first rest (f ∷ others) differ found =
    (by_places (eqb_tells (place_of first) (place_of f)), behind_another first rest others differ.1 found.1)
  where
    by_places : (((place_of first == place_of f) ≡ true) × (place_of first ≡ place_of f))
        ⊎ (((place_of first == place_of f) ≡ false) × (place_of first ≢ place_of f)) → IsFoundIn (first ∷ rest) f
    by_places (inl is) = absurd (differ.0 is.1)
    by_places (inr other) = ap (λ c. if c then Some first else first_at rest (place_of f)) other.0 ∙ found.0

all_found : (functions : List FunctionTree) → PlacesDiffer functions → AllOf (IsFoundIn functions) functions
all_found [] differ = tt
all_found (f ∷ rest) differ = (at_own_place f rest, behind_another f rest rest differ.0 (all_found rest differ.1))

pub functions_found : (program : Program) → PlacesDiffer (all_functions program)
    → AllOf (λ f. function_at program (place_of f) ≡ Some f) (all_functions program)
functions_found program differ = all_found (all_functions program) differ

-- the declared function that a name with a type is
pub record IsDeclaredAs (scope : Scope) (functions : List FunctionTree) (name : Name) (t : Typ) : Type 0 where
  pub f : FunctionTree
  pub found : first_named functions name ≡ Some (place_of f)
  pub of_interface : IsOfInterface scope f t
  pub among : AnyOf (λ other. other ≡ f) functions

pub declared_is_found : (scope : Scope) (functions : List FunctionTree) (types : Types) → AreDeclared scope functions types
    → (name : Name) (t : Typ) → type_at types name ≡ Some t → IsDeclaredAs scope functions name t
declared_is_found scope functions [] are name t typed = absurd (none-some t typed)
declared_is_found scope [] (one ∷ types) are name t typed = absurd are
declared_is_found scope (function at own name_at interface branches ∷ functions) (one ∷ types) are name t typed =
    by_name (bytes_eq one.0 name) (ap (λ own. has_name name (function at own name_at interface branches)) are.0) typed
    (λ later. declared_is_found scope functions types are.2 name t later)
  where
    by_name : (c : Bool) → has_name name (function at own name_at interface branches) ≡ c
        → (if c then Some one.1 else type_at types name) ≡ Some t
        → (type_at types name ≡ Some t → IsDeclaredAs scope functions name t)
        → IsDeclaredAs scope (function at own name_at interface branches ∷ functions) name t
    by_name true is typed later = record {
      f = function at own name_at interface branches;
      found = ap (λ c. if c then Some at else first_named functions name) is;
      of_interface = subst (IsOfInterface scope (function at own name_at interface branches)) (same_Some one.1 t typed) are.1;
      among = inl refl;
    }
    by_name false is typed later = let known = later typed in record {
      f = known.f;
      found = ap (λ c. if c then Some at else first_named functions name) is ∙ known.found;
      of_interface = known.of_interface;
      among = inr known.among;
    }
