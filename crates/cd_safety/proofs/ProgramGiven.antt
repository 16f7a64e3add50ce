-- The code of an accepted program: its declared functions are typed and well written, and so the values of their names are good.
use Rattle.std.proofs.Common.{◌≡◌, ℕ, List, [], ◌∷◌, inl, inr, Some, option_map, sym, ap, subst}
use Rattle.cd_model.specs.AllOf.{AllOf, AnyOf}
use Rattle.cd_model.specs.Interfaces.{Interfaces}
use Rattle.cd_model.specs.Scope.{Scope}
use Rattle.cd_model.specs.Thing.{Closure, Fields, NoField}
use Rattle.cd_model.specs.Written.{written}
use Rattle.cd_model.proofs.Covered.{each_parts}
use Rattle.cd_program.specs.Expr.{FunctionTree, function, Program}
use Rattle.cd_program.specs.WellMade.{AreWellMadeFunctions}
use Rattle.cd_typing.specs.Interfaces.{Arrow, AreWritten, IsIntersection}
use Rattle.cd_typing.specs.Kept.{Kept}
use Rattle.cd_typing.specs.Typ.{Typ, Types, AreTypes}
use Rattle.cd_typing.specs.Typed.{scope_of, IsOfInterface, AreDeclared, GivesData, HasOwnType, IsTypedWithin}
use Rattle.cd_evaluation.specs.Code.{Code, place_of, named}
use Rattle.cd_evaluation.specs.ProgramCode.{code_of}
use Rattle.cd_evaluation.specs.ProgramFunctions.{within_all, functions_within, all_functions, function_at}
use Rattle.cd_evaluation.specs.ProgramInterfaces.{interface_of, arrows_of, count_of, interfaces_of}
use Rattle.cd_evaluation.proofs.CountIsEnough.{count_is_enough_at}
use Rattle.cd_evaluation.proofs.FunctionsFound.{functions_found, declared_is_found}
use Rattle.cd_safety.specs.Accepted.{IsAccepted}
use Rattle.cd_safety.specs.ComesWithin.{KeepsTypes}
use Rattle.cd_safety.specs.GoodInterface.{HasGuardedInterface}
use Rattle.cd_safety.specs.KindsIn.{KindsOfFunction}
use Rattle.cd_safety.specs.OfInterface.{AreArrowsAt, AreArrowsOf, HasArrows}
use Rattle.cd_safety.specs.PatternsIn.{EachOfFunction}
use Rattle.cd_safety.specs.PatternTypes.{IsTypedPattern}
use Rattle.cd_safety.specs.PatternValues.{NamesFit}
use Rattle.cd_safety.specs.Sound.{IsGood}
use Rattle.cd_safety.specs.TypedClosure.{CapturesItsNames, IsGoodPattern, IsGoodFunction}
use Rattle.cd_safety.specs.ValueIn.{ValueIn}
use Rattle.cd_safety.specs.WellWritten.{IsSoundKind, FunctionIsWritten}
use Rattle.cd_safety.proofs.ArrowsOf.{written_arrows}
use Rattle.cd_safety.proofs.ClosuresTyped.{closure_in}
use Rattle.cd_safety.proofs.EnvironmentsGood.{closure_good}
use Rattle.cd_safety.proofs.FunctionsNamed.{of_named}
use Rattle.cd_safety.proofs.ProgramPatterns.{enough, takes_as_written}
use Rattle.cd_safety.proofs.SafeNames.{Fact, IsSafeCode, Sees}
use Rattle.cd_safety.proofs.SortsByParts.{good_by_parts}
use Rattle.cd_safety.proofs.WellWrittenParts.{function_written}

-- a fact of all functions is one of each of them
of_among : {X : Type 0} (fact : X → Type 0) (xs : List X) (x : X) → AnyOf (λ one. one ≡ x) xs → AllOf fact xs → fact x
of_among fact [] x none each = absurd none
of_among fact (one ∷ xs) x (inl same) each = subst fact same each.0
of_among fact (one ∷ xs) x (inr later) each = of_among fact xs x later each.1

-- the arrows of a function's interface
pub record HasInterface (scope : Scope) (f : FunctionTree) (t : Typ) : Type 0 where
  pub arrows : List Arrow
  pub are_written : AreWritten scope (interface_of f) arrows
  pub whole : IsIntersection arrows t

pub interface_is : (scope : Scope) (f : FunctionTree) (t : Typ) → IsOfInterface scope f t → HasInterface scope f t
interface_is scope (function at name name_at interface branches) t is =
    record { arrows = is.0; are_written = is.1; whole = is.2 }

declared_are_types : (scope : Scope) (functions : List FunctionTree) (types : Types) → AreDeclared scope functions types → AreTypes types
declared_are_types scope [] [] are = tt
declared_are_types scope [] (one ∷ types) are = absurd are
declared_are_types scope (function at name name_at interface branches ∷ functions) [] are = absurd are
declared_are_types scope (function at name name_at interface branches ∷ functions) (one ∷ types) are = (
  (interface_is scope (function at name name_at interface branches) one.1 are.1).whole.is_type,
  declared_are_types scope functions types are.2,
)

module _ (program : Program) (accepted : IsAccepted program) (kept : Kept) (typing : IsTypedWithin kept program) where
  abbrev scope : Scope
  scope = scope_of program

  abbrev code : Code
  code = code_of program

  abbrev interfaces : Interfaces
  interfaces = interfaces_of program

  abbrev types : Types
  types = typing.types

  abbrev fact : ℕ → Fields → Type 0
  fact = Fact kept scope code interfaces

  abbrev IsGoodOne : FunctionTree → Type 0
  IsGoodOne = IsGoodFunction scope code

  -- what is known of a declared function
  pub record IsDeclaredFunction (f : FunctionTree) : Type 0 where
    pub good : IsGoodOne f
    pub written : FunctionIsWritten (IsGoodPattern scope) IsGoodOne f
    pub typed : HasOwnType scope kept types f
    pub gives_data : GivesData scope f

  good_ones : (functions : List FunctionTree) → AllOf (λ f. function_at program (place_of f) ≡ Some f) functions
      → AllOf (HasGuardedInterface scope) functions → AllOf IsGoodOne functions
  good_ones [] found guarded = tt
  good_ones (f ∷ rest) found guarded =
      (record { found = found.0; guarded = guarded.0 }, good_ones rest found.1 guarded.1)

  declared_ones : (functions : List FunctionTree) → AreWellMadeFunctions functions → AllOf (KindsOfFunction IsSoundKind) functions
      → AllOf (EachOfFunction (IsTypedPattern scope)) functions → AllOf (EachOfFunction (CapturesItsNames scope)) functions
      → AllOf IsGoodOne functions → AllOf IsGoodOne (within_all functions) → AllOf (HasOwnType scope kept types) functions
      → AllOf (GivesData scope) functions → AllOf IsDeclaredFunction functions
  declared_ones [] made kinds patterns named_ones good within typed gives = tt
  declared_ones (f ∷ rest) made kinds patterns named_ones good within typed gives =
      let two = each_parts IsGoodOne (functions_within f) (within_all rest) within in (
        record {
          good = good.0;
          written = function_written scope IsGoodOne f made.1 kinds.0 patterns.0 named_ones.0 two.0;
          typed = typed.0;
          gives_data = gives.0;
        },
        declared_ones rest made.2 kinds.1 patterns.1 named_ones.1 good.1 two.1 typed.1 gives.1,
      )

  pub all_declared : AllOf IsDeclaredFunction program.functions
  all_declared =
      let good = good_ones (all_functions program) (functions_found program accepted.places) accepted.guarded in
      let two = each_parts IsGoodOne program.functions (within_all program.functions) good in
      declared_ones program.functions accepted.well_made.1 accepted.kinds accepted.patterns accepted.names two.0 two.1
      typing.functions typing.main

  pub are_arrows : (place : ℕ) (f : FunctionTree) → function_at program place ≡ Some f → HasGuardedInterface scope f
      → (arrows : List Arrow) → AreWritten scope (interface_of f) arrows → AreArrowsOf interfaces place arrows
  are_arrows place f found guarded arrows are = subst
      (λ found. AreArrowsAt (written (count_of program)) (arrows_of scope found) arrows) (sym found)
      (written_arrows scope (count_of program) (interface_of f) arrows
      (enough scope (count_of program) (interface_of f) guarded (count_is_enough_at program place f found)) are)

  -- a declared function is in the type of its interface
  pub declared_in : (f : FunctionTree) → IsDeclaredFunction f → (t : Typ) → IsOfInterface scope f t
      → ValueIn interfaces t (Closure (place_of f) NoField)
  declared_in f is t of =
      let own = interface_is scope f t of in
      closure_in interfaces (place_of f) NoField tt own.arrows
      (are_arrows (place_of f) f is.good.found is.good.guarded own.arrows own.are_written) t own.whole

  arrows_of_declared : (f : FunctionTree) → IsDeclaredFunction f → HasArrows interfaces (place_of f)
  arrows_of_declared f is =
      let own = interface_is scope f is.typed.0 is.typed.1 in
      (own.arrows, are_arrows (place_of f) f is.good.found is.good.guarded own.arrows own.are_written)

  names_fit : NamesFit interfaces types (named code NoField)
  names_fit name t found =
      let known = declared_is_found scope program.functions types typing.declared name t found in
      let is = of_among IsDeclaredFunction program.functions known.f known.among all_declared in (
        Closure (place_of known.f) NoField,
        ap (option_map (λ at. Closure at NoField)) known.found,
        record { is_value = tt; have_arrows = arrows_of_declared known.f is },
        declared_in known.f is t known.of_interface,
      )

  sees_declared : Sees kept scope code interfaces types NoField
  sees_declared = record {
    are_types = declared_are_types scope program.functions types typing.declared;
    fit = names_fit;
    good = (good_by_parts fact interfaces).no_field;
  }

  pub declared_good : (f : FunctionTree) → IsDeclaredFunction f → IsGood fact interfaces (Closure (place_of f) NoField)
  declared_good f is = closure_good fact interfaces (place_of f) NoField (arrows_of_declared f is)
      (record {
        f = f;
        found = is.good.found;
        guarded = is.good.guarded;
        written = is.written;
        types = types;
        are_types = sees_declared.are_types;
        fit = names_fit;
        t = is.typed.0;
        typed = is.typed.2;
      }) sees_declared.good

  pub safe_code : KeepsTypes kept → IsSafeCode kept scope code interfaces
  safe_code keeps = record {
    keeps = keeps;
    takes = takes_as_written program;
    are_arrows = are_arrows;
    declared = λ name place found.
        let known = of_named IsDeclaredFunction program.functions all_declared name place found in
        subst (λ at. IsGood fact interfaces (Closure at NoField)) known.at_place (declared_good known.f known.is);
  }
