-- The code of a program takes values as its patterns are written; its functions have arrows, so that each of its patterns takes each value or
-- fails.
use Rattle.std.proofs.Common.{◌≡◌, inl, inr, ℕ, List, [], ◌++◌, ◌∷◌, Option, Some, None, refl, sym, subst}
use Rattle.cd_syntax.specs.Name.{Name}
use Rattle.cd_syntax.specs.TypeTree.{Tree}
use Rattle.cd_syntax.specs.WellMadePattern.{IsWellMadePattern}
use Rattle.cd_model.specs.AllOf.{AllOf}
use Rattle.cd_model.specs.Guarded.{NamesAreGuarded}
use Rattle.cd_model.specs.Interfaces.{Interfaces}
use Rattle.cd_model.specs.Scope.{Scope}
use Rattle.cd_model.specs.Thing.{Thing, IsValue, AreValues}
use Rattle.cd_model.specs.Written.{written}
use Rattle.cd_matching.specs.Captures.{Captures}
use Rattle.cd_matching.specs.Takes.{WrittenValueTakes}
use Rattle.cd_matching.specs.WrittenPattern.{in_scope, pattern_of}
use Rattle.cd_matching.specs.Variables.{binds}
use Rattle.cd_variables.specs.Occurrences.{has, bound}
use Rattle.cd_program.specs.Expr.{Signature, FunctionTree, Program}
use Rattle.cd_typing.specs.Typed.{scope_of}
use Rattle.cd_typing.specs.Typ.{Types}
use Rattle.cd_evaluation.specs.Environment.{Env, with_all, captured_env}
use Rattle.cd_evaluation.specs.ProgramCode.{answer_of, TakesAs, code_of}
use Rattle.cd_names.specs.ProgramFaults.{names_of}
use Rattle.cd_evaluation.specs.ProgramFunctions.{all_functions, function_at}
use Rattle.cd_evaluation.specs.ProgramInterfaces.{interface_of, IsEnoughFor, arrows_of, count_of, interfaces_of}
use Rattle.cd_evaluation.specs.Code.{Code, named}
use Rattle.cd_evaluation.proofs.CountIsEnough.{of_found, count_is_enough_at}
use Rattle.cd_evaluation.proofs.ProgramTakes.{has_answer}
use Rattle.cd_evaluation.proofs.CapturedNames.{captured_values, named_after}
use Rattle.cd_evaluation.proofs.NamesAreLabels.{names_are_labels}
use Rattle.cd_safety.specs.PatternValues.{ValuesFit, NamesFit}
use Rattle.cd_safety.specs.ValueIn.{IsTypedValue}
use Rattle.cd_safety.specs.OfInterface.{AreArrowsAt, HasArrows}
use Rattle.cd_safety.specs.PatternAnswers.{Says, TakesAsWritten}
use Rattle.cd_safety.specs.PatternTypes.{IsTypedPattern}
use Rattle.cd_safety.specs.GoodInterface.{HasGoodInterface}
use Rattle.cd_safety.proofs.PatternBranches.{captured_are_typed}
use Rattle.cd_safety.proofs.PatternNames.{names_fit}
use Rattle.cd_safety.proofs.ArrowsOf.{AreEnough, written_arrows}
use Rattle.cd_safety.proofs.PatternResults.{has_tests}

-- what a pattern captures, as the environment that the code of a program makes of it
abbrev pub env_of : Tree → Captures Name → Env
env_of pattern captures = captured_env (names_of pattern) captures

module _ (interfaces : Interfaces) (scope : Scope) where
  says : (pattern : Tree) (v : Thing) (answer : Option Env) → IsValue v → TakesAs interfaces scope pattern v answer
      → Says interfaces scope env_of pattern v answer
  says pattern v answer is (inl took) =
      subst (Says interfaces scope env_of pattern v) (sym took.3) (by_result took.1 took.2)
    where
      by_result : (result : Option (Captures Name)) → WrittenValueTakes interfaces scope pattern v result
          → Says interfaces scope env_of pattern v (answer_of pattern result)
      by_result None takes = takes
      by_result (Some captures) takes = (captures, takes, refl)
  says pattern v answer is (inr no_value) = absurd (no_value.0 is)

pub enough : (scope : Scope) (count : ℕ) (signatures : List Signature)
    → AllOf (λ signature. NamesAreGuarded (in_scope scope signature.takes) × NamesAreGuarded (in_scope scope signature.gives)) signatures
    → IsEnoughFor scope count signatures → AreEnough scope count signatures
enough scope count [] guarded most = tt
enough scope count (signature ∷ rest) guarded most = (
  ((guarded.0.0, most.0.0), (guarded.0.1, most.0.1)),
  enough scope count rest guarded.1 most.1,
)

module _ (program : Program) where
  pub takes_as_written : TakesAsWritten (interfaces_of program) (scope_of program) env_of (code_of program)
  takes_as_written = says (interfaces_of program) (scope_of program)

  module _ (good : AllOf (HasGoodInterface (scope_of program)) (all_functions program)) where
    -- the arrows of each function are types; a number that is the place of none has no arrows
    pub functions_have_arrows : (function : ℕ) → HasArrows (interfaces_of program) function
    functions_have_arrows at = by_function (function_at program at)
        (λ f found. of_found (HasGoodInterface (scope_of program)) (all_functions program) good at f found)
        (λ f found. count_is_enough_at program at f found) refl
      where
        by_function : (found : Option FunctionTree) → ((f : FunctionTree) → found ≡ Some f → HasGoodInterface (scope_of program) f)
            → ((f : FunctionTree) → found ≡ Some f → IsEnoughFor (scope_of program) (count_of program) (interface_of f))
            → function_at program at ≡ found → HasArrows (interfaces_of program) at
        by_function None goods most same = (
          [],
          subst
              (λ found. AreArrowsAt (written (count_of program)) (arrows_of (scope_of program) found) []) (sym same) tt,
        )
        by_function (Some f) goods most same =
            let fit = goods f refl in (
              fit.arrows,
              subst
                  (λ found. AreArrowsAt (written (count_of program)) (arrows_of (scope_of program) found) fit.arrows) (sym same)
                  (written_arrows (scope_of program) (count_of program) (interface_of f) fit.arrows
                  (enough (scope_of program) (count_of program) (interface_of f) fit.guarded (most f refl)) fit.are_written),
            )

    -- so each pattern whose types are nodes takes each thing, or fails
    pub pattern_answers : (pattern : Tree) → IsTypedPattern (scope_of program) pattern → (v : Thing)
        → (answer : Option Env) × (code_of program).take pattern v answer
    pattern_answers pattern typed = has_answer (interfaces_of program) (scope_of program) pattern
        (has_tests (interfaces_of program) functions_have_arrows (scope_of program) pattern typed)

module _ (interfaces : Interfaces) (scope : Scope) (pattern : Tree) (typed_pattern : IsTypedPattern scope pattern) (v : Thing)
    (typed : IsTypedValue interfaces v) (captures : Captures Name)
    (takes : WrittenValueTakes interfaces scope pattern v (Some captures)) where
  -- the environment that is made of captures holds values
  pub captured_env_is : IsWellMadePattern pattern → AreValues (env_of pattern captures)
  captured_env_is made = captured_values (names_of pattern) captures (names_are_labels pattern made)
      (λ name w found. (captured_are_typed interfaces scope pattern typed_pattern v typed captures takes name w found).is_value)

  -- and its names, before those that were seen, mean values of their types
  pub captured_names_fit : ((name : Name) → binds (pattern_of scope pattern) name ≡ has (bound pattern) name) → (code : Code)
      (own types : Types) (env : Env) → ValuesFit interfaces own captures → NamesFit interfaces types (named code env)
      → NamesFit interfaces (own ++ types) (named code (with_all (env_of pattern captures) env))
  captured_names_fit same code own types env own_fit fit =
      names_fit interfaces own types captures (named code env) (named code (with_all (env_of pattern captures) env))
      (named_after interfaces scope pattern same code v captures takes env) own_fit fit
