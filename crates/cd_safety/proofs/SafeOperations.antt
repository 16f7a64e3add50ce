-- Operators, words, conditions and applications are safe where their operands are.
use Rattle.std.proofs.Common.{ℕ, Bool, true, false, Some, sym, subst}
use Rattle.cd_model.specs.BuiltIns.{BOOL}
use Rattle.cd_model.specs.Interfaces.{Interfaces}
use Rattle.cd_model.specs.Scope.{Scope}
use Rattle.cd_model.specs.Thing as thing
use Rattle.cd_model.specs.Thing.{Thing}
use Rattle.cd_program.specs.declared.operator.Op.{Op}
use Rattle.cd_program.specs.declared.operator.Op.TheVariants as op
use Rattle.cd_program.specs.declared.operator.BuiltIn.{BuiltIn as Word}
use Rattle.cd_program.specs.Expr.{Expr, If, Chain, Call, Apply, Exprs, NoExpr, AnExpr, Tails, NoTail, ATail, Operand, Without, Select}
use Rattle.cd_meaning.specs.Sets.{◌⊆◌}
use Rattle.cd_typing.specs.Kept.{Kept}
use Rattle.cd_typing.specs.Operators.{truth, Skips, IsReached, Operates}
use Rattle.cd_typing.specs.Rules.{ArgumentsHave, TailsHave}
use Rattle.cd_typing.specs.Typ.{Typ, In, IsType, BuiltIn, Types}
use Rattle.cd_evaluation.specs.Code.{Code}
use Rattle.cd_evaluation.specs.Environment.{Env}
use Rattle.cd_evaluation.specs.Evaluation.{by_truth, operated, IsStrict, eval, eval_tails, applied_to}
use Rattle.cd_evaluation.specs.Operations.{truth_of, operate, word_outcome, dropped, selected}
use Rattle.cd_evaluation.specs.Runs.{Done, Run, ends, ticked, bound}
use Rattle.cd_safety.specs.ValueIn.{ValueIn}
use Rattle.cd_safety.specs.Ways.{Way, code_by}
use Rattle.cd_safety.proofs.ConstantsSafe.{good_within}
use Rattle.cd_safety.proofs.OperatorsSafe.{condition, skipped_fine, operator_fine, word_fine, dropped_fine, selected_fine}
use Rattle.cd_safety.proofs.SafeNames.{Fact, Sees}
use Rattle.cd_safety.proofs.SafeParts.{GoodAt, SafeFor, SafeIn, ExprIsSafe, KindIsSafe, ExprsAreSafe, TailsAreSafe, CallIsSafe}
use Rattle.cd_safety.proofs.SafeRuns.{end_safe, weaker_safe, tick_safe, bound_safe}

module _ (kept : Kept) (scope : Scope) (code : Code) (interfaces : Interfaces) where
  abbrev fact : ℕ → thing.Fields → Type 0
  fact = Fact kept scope code interfaces

  abbrev Good : Typ → Thing → Type 0
  Good t v = GoodAt kept scope code interfaces t v

  abbrev SafeAt : Typ → (Way → Run) → Type 0
  SafeAt t run = SafeIn kept scope code interfaces t run

  abbrev by : Way → Code
  by = code_by interfaces kept code

  -- a truth value says which run is taken
  asked_safe : (wanted : Thing → Type 0) (s : Typ) → IsType s → In s ⊆ BuiltIn BOOL → (v : Thing) → Good s v → (one other : Way → Run)
      → (In s (truth true) → SafeFor kept scope code interfaces wanted one)
      → (In s (truth false) → SafeFor kept scope code interfaces wanted other)
      → SafeFor kept scope code interfaces wanted (λ way. by_truth (truth_of v) (one way) (other way))
  asked_safe wanted s s_is within v good one other on_true on_false =
      let found = condition fact interfaces s s_is within v good in
      subst (λ what. SafeFor kept scope code interfaces wanted (λ way. by_truth what (one way) (other way))) (sym found.is)
      (by_value found.value found.inside)
    where
      by_value : (b : Bool) → In s (truth b) → SafeFor kept scope code interfaces wanted (λ way. by_truth (Some b) (one way) (other way))
      by_value true inside = on_true inside
      by_value false inside = on_false inside

  -- an operator after an operand
  module _ (self t : Typ) (self_is : IsType self) (t_is : IsType t) (v : Thing) (good : Good self v) (right : Way → Run) where
    abbrev RightIsSafe : Op → Type 0
    RightIsSafe is = IsReached is (In self) → (s : Typ) × IsType s × SafeAt s right × Operates is (In self) (In s) (In t)

    strict_safe : (is : Op) → IsStrict is → IsReached is (In self) → RightIsSafe is
        → SafeAt t (λ way. bound (right way) (λ w. ticked (ends (operate is v w))))
    strict_safe is strict reach on =
        let has = on reach in
        bound_safe fact interfaces (ValueIn interfaces has.0) (ValueIn interfaces t) has.2
        (λ w w_good w_in. tick_safe fact interfaces (ValueIn interfaces t)
        (end_safe fact interfaces (ValueIn interfaces t) (operate is v w)
        (operator_fine fact interfaces self has.0 t self_is has.1 t_is is strict has.3 v w good (w_good, w_in))))

    -- the right operand alone
    right_safe : (s : Typ) → IsType s → SafeAt s right → In s ⊆ In t → SafeAt t right
    right_safe s s_is safe within = weaker_safe fact interfaces (ValueIn interfaces s) (ValueIn interfaces t)
        (λ w w_good w_in. (good_within fact interfaces s t s_is t_is within w (w_good, w_in)).1) safe

    operated_safe : (is : Op) → Skips is (In self) (In t) → RightIsSafe is → SafeAt t (λ way. operated is v (right way))
    operated_safe op.And skips on = tick_safe fact interfaces (ValueIn interfaces t)
        (asked_safe (ValueIn interfaces t) self self_is skips.condition v good right (λ way. ends (Done (truth false)))
        (λ reach. let has = on reach in right_safe has.0 has.1 has.2 has.3)
        (λ reach. end_safe fact interfaces (ValueIn interfaces t) (Done (truth false))
        (skipped_fine fact interfaces false self t skips reach)))
    operated_safe op.Or skips on = tick_safe fact interfaces (ValueIn interfaces t)
        (asked_safe (ValueIn interfaces t) self self_is skips.condition v good (λ way. ends (Done (truth true))) right
        (λ reach. end_safe fact interfaces (ValueIn interfaces t) (Done (truth true))
        (skipped_fine fact interfaces true self t skips reach))
        (λ reach. let has = on reach in right_safe has.0 has.1 has.2 has.3))
    operated_safe op.Equal skips on = strict_safe op.Equal tt tt on
    operated_safe op.Unequal skips on = strict_safe op.Unequal tt tt on
    operated_safe op.Less skips on = strict_safe op.Less tt tt on
    operated_safe op.AtMost skips on = strict_safe op.AtMost tt tt on
    operated_safe op.Greater skips on = strict_safe op.Greater tt tt on
    operated_safe op.AtLeast skips on = strict_safe op.AtLeast tt tt on
    operated_safe op.Concat skips on = strict_safe op.Concat tt tt on
    operated_safe op.Plus skips on = strict_safe op.Plus tt tt on
    operated_safe op.Minus skips on = strict_safe op.Minus tt tt on
    operated_safe op.Times skips on = strict_safe op.Times tt tt on
    operated_safe op.Div skips on = strict_safe op.Div tt tt on
    operated_safe op.Mod skips on = strict_safe op.Mod tt tt on

  module _ (call : Way → Thing → Thing → Run) where
    abbrev Here : Types → Env → Type 0
    Here types env = Sees kept scope code interfaces types env

    pub if_safe : (asked then_one else_one : Expr) → ExprIsSafe kept scope code interfaces call asked
        → ExprIsSafe kept scope code interfaces call then_one → ExprIsSafe kept scope code interfaces call else_one
        → KindIsSafe kept scope code interfaces call (If asked then_one else_one)
    if_safe asked then_one else_one asked_is then_is else_is types env sees t type have =
        bound_safe fact interfaces (ValueIn interfaces have.0) (ValueIn interfaces t) (asked_is types env sees have.0 have.1 have.2)
        (λ v good inside. tick_safe fact interfaces (ValueIn interfaces t)
        (asked_safe (ValueIn interfaces t) have.0 have.1 have.3 v (good, inside)
        (λ way. eval (by way) (call way) then_one env) (λ way. eval (by way) (call way) else_one env)
        (λ reach. then_is types env sees t type (have.4 reach)) (λ reach. else_is types env sees t type (have.5 reach))))

    tails_safe : (tails : Tails) → TailsAreSafe kept scope code interfaces call tails → (types : Types) (env : Env) → Here types env
        → (self t : Typ) → IsType self → IsType t → TailsHave kept scope types self tails t → (v : Thing) → Good self v
        → SafeAt t (λ way. eval_tails (by way) (call way) tails env v)
    tails_safe NoTail safe types env sees self t self_is t_is have v good =
        end_safe fact interfaces (ValueIn interfaces t) (Done v) (good_within fact interfaces self t self_is t_is have v good)
    tails_safe (ATail (Operand is e) rest) safe types env sees self t self_is t_is have v good =
        bound_safe fact interfaces (ValueIn interfaces have.0) (ValueIn interfaces t)
        (operated_safe self have.0 self_is have.1 v good (λ way. eval (by way) (call way) e env) is have.2.0
        (λ reach. let has = have.2.1 reach in (has.0, has.1, safe.0 types env sees has.0 has.1 has.2, has.3)))
        (λ w w_good w_in. tails_safe rest safe.1 types env sees have.0 t have.1 t_is have.3 w (w_good, w_in))
    tails_safe (ATail (Without label) rest) safe types env sees self t self_is t_is have v good =
        bound_safe fact interfaces (ValueIn interfaces have.0) (ValueIn interfaces t)
        (tick_safe fact interfaces (ValueIn interfaces have.0)
        (end_safe fact interfaces (ValueIn interfaces have.0) (dropped label v)
        (dropped_fine fact interfaces self have.0 self_is have.1 v good label have.2.0 have.2.1)))
        (λ w w_good w_in. tails_safe rest safe types env sees have.0 t have.1 t_is have.3 w (w_good, w_in))
    tails_safe (ATail (Select label) rest) safe types env sees self t self_is t_is have v good =
        bound_safe fact interfaces (ValueIn interfaces have.0) (ValueIn interfaces t)
        (tick_safe fact interfaces (ValueIn interfaces have.0)
        (end_safe fact interfaces (ValueIn interfaces have.0) (selected label v)
        (selected_fine fact interfaces self have.0 self_is have.1 v good label have.2.0 have.2.1)))
        (λ w w_good w_in. tails_safe rest safe types env sees have.0 t have.1 t_is have.3 w (w_good, w_in))

    pub chain_safe : (first : Expr) (tails : Tails) → ExprIsSafe kept scope code interfaces call first
        → TailsAreSafe kept scope code interfaces call tails → KindIsSafe kept scope code interfaces call (Chain first tails)
    chain_safe first tails first_is safe types env sees t type have =
        bound_safe fact interfaces (ValueIn interfaces have.0) (ValueIn interfaces t) (first_is types env sees have.0 have.1 have.2)
        (λ v good inside. tails_safe tails safe types env sees have.0 t have.1 type have.3 v (good, inside))

    pub word_safe : (word : Word) (e : Expr) → ExprIsSafe kept scope code interfaces call e
        → KindIsSafe kept scope code interfaces call (Call word e)
    word_safe word e safe types env sees t type have =
        bound_safe fact interfaces (ValueIn interfaces have.0) (ValueIn interfaces t) (safe types env sees have.0 have.1 have.2)
        (λ v good inside. tick_safe fact interfaces (ValueIn interfaces t)
        (end_safe fact interfaces (ValueIn interfaces t) (word_outcome word v)
        (word_fine fact interfaces have.0 t have.1 type v (good, inside) word have.3)))

    module _ (call_is : CallIsSafe kept scope code interfaces call) where
      arguments_safe : (exprs : Exprs) → ExprsAreSafe kept scope code interfaces call exprs → (types : Types) (env : Env) → Here types env
          → (self t : Typ) → IsType self → IsType t → ArgumentsHave kept scope types self exprs t → (v : Thing) → Good self v
          → SafeAt t (λ way. applied_to (by way) (call way) exprs env v)
      arguments_safe NoExpr safe types env sees self t self_is t_is have v good =
          end_safe fact interfaces (ValueIn interfaces t) (Done v) (good_within fact interfaces self t self_is t_is have v good)
      arguments_safe (AnExpr e rest) safe types env sees self t self_is t_is have v good =
          bound_safe fact interfaces (ValueIn interfaces have.0) (ValueIn interfaces t) (safe.0 types env sees have.0 have.2 have.3)
          (λ w w_good w_in. bound_safe fact interfaces (ValueIn interfaces have.1) (ValueIn interfaces t)
          (tick_safe fact interfaces (ValueIn interfaces have.1)
          (call_is self have.0 have.1 (record { self_is = self_is; s_is = have.2; result_is = have.4; all_map = have.5 }) v w good
          (w_good, w_in)))
          (λ r r_good r_in. arguments_safe rest safe.1 types env sees have.1 t have.4 t_is have.6 r (r_good, r_in)))

      pub apply_safe : (exprs : Exprs) → ExprsAreSafe kept scope code interfaces call exprs
          → KindIsSafe kept scope code interfaces call (Apply exprs)
      apply_safe NoExpr safe types env sees t type have = absurd have
      apply_safe (AnExpr e rest) safe types env sees t type have =
          bound_safe fact interfaces (ValueIn interfaces have.0) (ValueIn interfaces t) (safe.0 types env sees have.0 have.1 have.2)
          (λ v good inside. arguments_safe rest safe.1 types env sees have.0 t have.1 type have.3 v (good, inside))
