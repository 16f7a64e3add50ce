-- From an operator whose operands are at hand the machine comes to its unit.
use Rattle.std.proofs.Common.{true, ◌≡◌, List, [], ◌∷◌, ◌++◌, Option, Some, None, option_map, refl, sym, ap, subst}
use Rattle.std.specs.Prelude.{IfSome}
use Rattle.cd_syntax.specs.declared.tokens.Span.{Span}
use Rattle.cd_model.specs.Thing.{Thing}
use Rattle.cd_matching.specs.Captures.{or_else}
use Rattle.cd_program.specs.declared.operator.Op.{Op}
use Rattle.cd_program.specs.declared.operator.Op.TheVariants as op
use Rattle.cd_program.specs.Expr.{Expr, expr, Chain, Tails, ATail, Operand}
use Rattle.cd_evaluation.specs.Code.{Code}
use Rattle.cd_evaluation.specs.Environment.{Env}
use Rattle.cd_evaluation.specs.Evaluation.{IsStrict}
use Rattle.cd_evaluation.specs.Machine.{Control, Evaluating, Returning, Frame, Tailing, Operating}
use Rattle.cd_evaluation.specs.Operations.{operate}
use Rattle.cd_evaluation.specs.Runs.{Outcome, Done, found}
use Rattle.cd_machine.specs.Inner.AtHand.{Gives, Computes, ReachesUnit, ComesAtHand}
use Rattle.cd_cells.specs.declared.cell.Part.{Part}
use Rattle.cd_cells.specs.declared.values.Values.{Values}
use Rattle.cd_code.specs.declared.code.Code.{Code as CodeOf}
use Rattle.cd_machine.specs.declared.environments.EnvId.{EnvId}
use Rattle.cd_machine.specs.declared.turn.Turn.{Turn as TurnOf}
use Rattle.cd_machine.specs.Inner.CodeIn.{code_in, IsPatternIn}
use Rattle.cd_machine.specs.Inner.Known.{TurnIsKnown}
use Rattle.cd_machine.specs.Inner.PlainFrame.{plain_turn, env_at, IsTurn}
use Rattle.cd_machine.specs.Inner.Running.{Leads}
use Rattle.cd_machine.specs.Inner.Turn.{Turn, give, give_to, evaluate, paid, GoesFreely, GoesByUnit, GoesOn}
use Rattle.cd_machine.proofs.EnteredRight.{expr_goes}
use Rattle.cd_machine.proofs.MachineRuns.{leads_then}
use Rattle.cd_machine.proofs.ResumedRight.{comes_to, strict_goes}

-- any operator but `&&` and `||`
pub strict_of : (is : Op) → (is ≡ op.And → ⊥) → (is ≡ op.Or → ⊥) → IsStrict is
strict_of op.And not_and not_or = absurd (not_and refl)
strict_of op.Or not_and not_or = absurd (not_or refl)
strict_of is not_and not_or = tt

-- a name that is found
pub found_gives : {X : Type 0} (at : X → Thing) (result : Option X) (other first : Option Thing) → option_map at result ≡ first
    → IfSome result (λ id. give (found (or_else first other)) ≡ give (Done (at id)))
found_gives at None other first is = tt
found_gives at (Some id) other first is = ap (λ (value : Option Thing). give (found (or_else value other))) (sym is)

-- of an expression as of what it is
module _ (code : CodeOf) (values : Values) (environments : List (List Part)) (env : EnvId) (turn : TurnOf) where
  pub reaches_of : (e : Expr) → ComesAtHand code values environments e env turn
      → ReachesUnit (code_in code) e (env_at values environments env) (plain_turn values environments turn)
  reaches_of (expr span kind) comes = comes.reaches span

  pub takes_of : (e : Expr) → ComesAtHand code values environments e env turn → turn.takes ≡ true
  takes_of (expr span kind) comes = comes.takes

  pub within_of : (e : Expr) → ComesAtHand code values environments e env turn → IsTurn values environments turn
  within_of (expr span kind) comes = comes.within

  pub known_of : (e : Expr) → ComesAtHand code values environments e env turn
      → TurnIsKnown (IsPatternIn code) (plain_turn values environments turn)
  known_of (expr span kind) comes = comes.known

module _ (code : Code) where
  -- a turn that takes no unit
  free_leads : (control : Control) (top : List Frame) (turn : Turn) → GoesFreely code control top turn → (below : List Frame)
      → Leads code control (top ++ below) turn.control (turn.pushed ++ below)
  free_leads control top turn goes below depth units = goes.keeps depth units below

  -- an expression that gives a value at once
  given_leads : (e : Expr) (env : Env) (v : Thing) → Gives code e env v → (stack : List Frame)
      → Leads code (Evaluating e env) stack (Returning (Done v)) stack
  given_leads e env v gives stack = free_leads (Evaluating e env) [] (give (Done v)) (subst (GoesOn code (Evaluating e env) []) gives (expr_goes code e env)) stack

  pub reaches : (span : Span) (first : Expr) (is : Op) (second : Expr) (rest : Tails) (env : Env) (outcome : Outcome)
      → Computes code first is second env outcome
      → ReachesUnit code (expr span (Chain first (ATail (Operand is second) rest))) env (paid (give_to (Tailing rest env ∷ []) outcome))
  reaches span first is second rest env outcome computes = record {
    last = Returning (Done computes.right);
    top = Operating is computes.left rest env ∷ [];
    leads = leads;
    goes = subst (λ (o : Outcome). GoesByUnit code (Returning (Done computes.right)) (Operating is computes.left rest env ∷ [])
        (paid (give_to (Tailing rest env ∷ []) o))) (sym computes.makes)
        (comes_to code (Operating is computes.left rest env) (Done computes.right)
        (paid (give_to (Tailing rest env ∷ []) (operate is computes.left computes.right))) refl);
  }
    where
      tails : Tails
      tails = ATail (Operand is second) rest

      whole : Expr
      whole = expr span (Chain first tails)

      leads : (below : List Frame) → Leads code (Evaluating whole env) below (Returning (Done computes.right)) (Operating is computes.left rest env ∷ below)
      leads below =
          leads_then code (Evaluating whole env) (Evaluating first env) (Returning (Done computes.right)) below (Tailing tails env ∷ below)
          (Operating is computes.left rest env ∷ below)
          (free_leads (Evaluating whole env) [] (evaluate first env (Tailing tails env ∷ [])) (expr_goes code whole env) below)
          (leads_then code (Evaluating first env) (Returning (Done computes.left)) (Returning (Done computes.right)) (Tailing tails env ∷ below)
          (Tailing tails env ∷ below) (Operating is computes.left rest env ∷ below)
          (given_leads first env computes.left computes.first_gives (Tailing tails env ∷ below))
          (leads_then code (Returning (Done computes.left)) (Evaluating second env) (Returning (Done computes.right)) (Tailing tails env ∷ below)
          (Operating is computes.left rest env ∷ below) (Operating is computes.left rest env ∷ below)
          (free_leads (Returning (Done computes.left)) (Tailing tails env ∷ []) (evaluate second env (Operating is computes.left rest env ∷ []))
          (strict_goes code is second rest env computes.left computes.strict) below)
          (given_leads second env computes.right computes.second_gives (Operating is computes.left rest env ∷ below))))
