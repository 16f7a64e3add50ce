-- Applications, one in the other, are safe: a closure that is typed takes an argument as the rule of application says.
use Rattle.std.proofs.Common.{◌≡◌, ℕ, zero, suc, List, [], ◌∷◌, inl, inr, Some, sym, subst}
use Rattle.cd_model.specs.AllOf.{AllOf, AnyOf}
use Rattle.cd_model.specs.Interfaces.{Interfaces}
use Rattle.cd_model.specs.Scope.{Scope}
use Rattle.cd_model.specs.Thing as thing
use Rattle.cd_model.specs.Thing.{Thing, Closure, Fields}
use Rattle.cd_model.proofs.Ones.{each_weaker}
use Rattle.cd_program.specs.Expr.{Branches, FunctionTree, function}
use Rattle.cd_typing.specs.Branches.{Cover, patterns_of}
use Rattle.cd_typing.specs.Interfaces.{Arrow}
use Rattle.cd_typing.specs.Kept.{Kept, Matches}
use Rattle.cd_typing.specs.Rules.{FunctionHas, BodiesHave}
use Rattle.cd_typing.specs.Typ.{Typ, In, IsType, Types, with_type}
use Rattle.cd_evaluation.specs.Code.{Code}
use Rattle.cd_evaluation.specs.Environment.{Env, with_name}
use Rattle.cd_evaluation.specs.Evaluation.{chosen}
use Rattle.cd_evaluation.specs.Meaning.{enter, calls}
use Rattle.cd_evaluation.specs.Runs.{Outcome, Done, Raised, Overflow, Spent, Stuck, Result, Run}
use Rattle.cd_safety.specs.Applicable.{IsApplicable}
use Rattle.cd_safety.specs.GoodInterface.{HasGuardedInterface}
use Rattle.cd_safety.specs.Sound.{data_type, IsGood, IsFine}
use Rattle.cd_safety.specs.TypedClosure.{IsGoodPattern, IsGoodFunction, IsTypedClosure}
use Rattle.cd_safety.specs.ValueIn.{ValueIn}
use Rattle.cd_safety.specs.Ways.{Way, Freely, Within, code_by}
use Rattle.cd_safety.specs.WellWritten.{BranchesAreWritten, FunctionIsWritten}
use Rattle.cd_safety.proofs.Applied.{is_closure, is_taken, is_given}
use Rattle.cd_safety.proofs.ArrowsPlaced.{types_of}
use Rattle.cd_safety.proofs.ClosuresTyped.{closure_in}
use Rattle.cd_safety.proofs.EnvironmentsGood.{environment_good}
use Rattle.cd_safety.proofs.SafeBranches.{closed_in}
use Rattle.cd_safety.proofs.SafeExprs.{branches_safe}
use Rattle.cd_safety.proofs.SafeNames.{Fact, IsSafeCode, Sees, arrows_of_closure, sees_name}
use Rattle.cd_safety.proofs.SafeParts.{IsApplication, GoodAt, SafeIn, CallIsSafe}
use Rattle.cd_safety.proofs.SafeRuns.{end_safe}

-- what each gives that has the fact, where one has it
pub of_one : {X : Type 0} (has : X → Type 0) (What : Type 0) (xs : List X) → AnyOf has xs → AllOf (λ x. has x → What) xs → What
of_one has What [] one each = absurd one
of_one has What (x ∷ xs) (inl here) each = each.0 here
of_one has What (x ∷ xs) (inr later) each = of_one has What xs later each.1

module _ (kept : Kept) (scope : Scope) (code : Code) (interfaces : Interfaces) (given : IsSafeCode kept scope code interfaces) where
  abbrev fact : ℕ → thing.Fields → Type 0
  fact = Fact kept scope code interfaces

  abbrev by : Way → Code
  by = code_by interfaces kept code

  -- applications to at most this depth, each way
  abbrev calls_by : (depth : ℕ) → Way → Thing → Thing → Run
  calls_by depth way = calls (by way) depth

  -- a run that is safe for the result of each arrow that takes the argument is safe for the result of the application
  module _ (place : ℕ) (env : Fields) (arrows : List Arrow) (self s result : Typ)
      (applicable : IsApplicable interfaces place env arrows self s result) (w : Thing) (good : GoodAt kept scope code interfaces s w) where
    abbrev Takes : Arrow → Type 0
    Takes arrow = ValueIn interfaces arrow.argument w

    some_takes : AnyOf Takes arrows
    some_takes = is_taken interfaces place env arrows self s result applicable w good.0.typed good.1

    by_outcome : (outcome : Outcome)
        → AllOf (λ arrow. Takes arrow → IsFine fact interfaces (ValueIn interfaces arrow.result) outcome) arrows
        → IsFine fact interfaces (ValueIn interfaces result) outcome
    by_outcome (Done r) each =
        let r_good = of_one Takes (IsGood fact interfaces r) arrows some_takes
        (each_weaker (λ arrow. Takes arrow → IsFine fact interfaces (ValueIn interfaces arrow.result) (Done r))
        (λ arrow. Takes arrow → IsGood fact interfaces r) (λ arrow on inside. (on inside).0) arrows each) in (
          r_good,
          is_given interfaces place env arrows self s result applicable w good.0.typed good.1 r r_good.typed
              (each_weaker (λ arrow. Takes arrow → IsFine fact interfaces (ValueIn interfaces arrow.result) (Done r))
              (λ arrow. Takes arrow → ValueIn interfaces arrow.result r) (λ arrow on inside. (on inside).1) arrows each),
        )
    by_outcome (Raised r) each =
        of_one Takes (IsGood fact interfaces r × ValueIn interfaces data_type r) arrows some_takes each
    by_outcome Overflow each = tt
    by_outcome Spent each = tt
    by_outcome Stuck each = of_one Takes ⊥ arrows some_takes each

    joined_safe : (run : Way → Run) → AllOf (λ arrow. Takes arrow → SafeIn kept scope code interfaces arrow.result run) arrows
        → SafeIn kept scope code interfaces result run
    joined_safe run each = record {
      fine = λ units final h. by_outcome final.outcome
          (each_weaker (λ arrow. Takes arrow → SafeIn kept scope code interfaces arrow.result run)
          (λ arrow. Takes arrow → IsFine fact interfaces (ValueIn interfaces arrow.result) final.outcome)
          (λ arrow on inside. (on inside).fine units final h) arrows each);
      within = of_one Takes ((units : ℕ) (result : Result) → run Freely units result → run Within units result) arrows some_takes
          (each_weaker (λ arrow. Takes arrow → SafeIn kept scope code interfaces arrow.result run)
          (λ arrow. Takes arrow → (units : ℕ) (result : Result) → run Freely units result → run Within units result)
          (λ arrow on inside. (on inside).within) arrows each);
    }

  module _ (depth : ℕ) (call_is : CallIsSafe kept scope code interfaces (calls_by depth)) where
    -- the branches of a function, under each arrow that takes the argument
    each_arrow : (branches : Branches) → BranchesAreWritten (IsGoodPattern scope) (IsGoodFunction scope code) branches
        → (types : Types) (env : Env) → Sees kept scope code interfaces types env
        → (w : Thing) → IsGood fact interfaces w → (arrows : List Arrow)
        → AllOf (λ arrow. IsType arrow.argument × IsType arrow.result) arrows
        → AllOf (λ arrow. Matches kept (patterns_of branches) (In arrow.argument) (Cover scope branches (In arrow.argument))
        × BodiesHave kept scope types [] (In arrow.argument) branches (In arrow.result)) arrows
        → AllOf (λ arrow. ValueIn interfaces arrow.argument w
        → SafeIn kept scope code interfaces arrow.result (λ way. chosen (by way) (calls_by depth way) branches env w Stuck)) arrows
    each_arrow branches written types env sees w good [] are have = tt
    each_arrow branches written types env sees w good (arrow ∷ arrows) are have = (
      λ inside. closed_in kept scope code interfaces given (calls_by depth) types env sees arrow.argument are.0.0 w (good, inside)
          arrow.result are.0.1 branches (branches_safe kept scope code interfaces given (calls_by depth) call_is branches written)
          have.0.0 have.0.1,
      each_arrow branches written types env sees w good arrows are.1 have.1,
    )

    entered : (f : FunctionTree) → HasGuardedInterface scope f → FunctionIsWritten (IsGoodPattern scope) (IsGoodFunction scope code) f
        → (types : Types) (own : Typ) → FunctionHas kept scope types f own → (place : ℕ) (env : Env)
        → Sees kept scope code interfaces types env
        → code.function place ≡ Some f → IsGood fact interfaces (Closure place env) → (self s result : Typ)
        → IsApplication self s result → ValueIn interfaces self (Closure place env) → (w : Thing) → GoodAt kept scope code interfaces s w
        → SafeIn kept scope code interfaces result (λ way. enter (by way) (calls_by depth way) (Some f) (Closure place env) env w)
    entered (function at name name_at interface branches) guarded written types own have place env sees found good self s result rule
        inside w w_good =
        let are = given.are_arrows place (function at name name_at interface branches) found guarded have.0 have.2 in
        let itself = closure_in interfaces place env sees.good.are_values have.0 are have.1 have.3 in
        let inner = sees_name kept scope code interfaces name have.1 types (Closure place env) env written.0 have.3.is_type good itself sees in
        joined_safe place env have.0 self s result (record {
          are_values = sees.good.are_values;
          are_arrows = are;
          self_is = rule.self_is;
          s_is = rule.s_is;
          result_is = rule.result_is;
          all_map = rule.all_map;
          inside = inside;
        }) w w_good (λ way. chosen (by way) (calls_by depth way) branches (with_name name (Closure place env) env) w Stuck)
        (each_arrow branches written.1 (with_type name have.1 types) (with_name name (Closure place env) env) inner w w_good.0 have.0
        (types_of interfaces place have.0 are) have.4)

    closure_safe : (place : ℕ) (env : Env) → IsGood fact interfaces (Closure place env) → (self s result : Typ)
        → IsApplication self s result → ValueIn interfaces self (Closure place env) → (w : Thing) → GoodAt kept scope code interfaces s w
        → SafeIn kept scope code interfaces result (λ way. calls_by (suc depth) way (Closure place env) w)
    closure_safe place env good self s result rule inside w w_good =
        let typed : IsTypedClosure kept scope code interfaces place env = good.sound.0 in
        let sees : Sees kept scope code interfaces typed.types env = record {
          are_types = typed.are_types;
          fit = typed.fit;
          good = environment_good fact interfaces (arrows_of_closure kept scope code interfaces given) place env good;
        } in
        subst (λ found. SafeIn kept scope code interfaces result (λ way. enter (by way) (calls_by depth way) found (Closure place env) env w))
        (sym typed.found)
        (entered typed.f typed.guarded typed.written typed.types typed.t typed.typed place env sees typed.found good self s result rule
        inside w w_good)

    next_call : CallIsSafe kept scope code interfaces (calls_by (suc depth))
    next_call self s result rule v w good w_good =
        let closure = is_closure interfaces self rule.self_is rule.all_map.functions_alone v good.0.typed good.1 in
        subst (λ v. SafeIn kept scope code interfaces result (λ way. calls_by (suc depth) way v w)) (sym closure.2)
        (closure_safe closure.0 closure.1 (subst (IsGood fact interfaces) closure.2 good.0) self s result rule
        (subst (ValueIn interfaces self) closure.2 good.1) w w_good)

  pub calls_safe : (depth : ℕ) → CallIsSafe kept scope code interfaces (calls_by depth)
  calls_safe zero = λ self s result rule v w good w_good. end_safe fact interfaces (ValueIn interfaces result) Spent tt
  calls_safe (suc depth) = next_call depth (calls_safe depth)
