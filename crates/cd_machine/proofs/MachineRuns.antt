-- Steps of the machine, from turn to turn.
use Rattle.std.proofs.Common.{true≢false, ◌≡◌, ◌≤◌, ◌<◌, ◌+◌, ℕ, suc, Bool, true, false, MatchBool, List, [], ◌∷◌, ◌++◌, refl, sym, ap, subst, ◌∙◌, arith}
use Rattle.std.proofs.lemmas.List.{map-append}
use Rattle.cd_syntax.specs.TypeTree.{Tree}
use Rattle.std.specs.Borrow.{Bor}
use Rattle.cd_model.specs.AllOf.{AllOf}
use Rattle.cd_model.proofs.Covered.{each_both}
use Rattle.cd_model.specs.Thing.{Thing, NoField}
use Rattle.cd_program.specs.Expr.{NoExpr}
use Rattle.cd_program.specs.PlainExpr.{plain}
use Rattle.cd_program.specs.declared.expr.Expr.{Expr as CodeExpr}
use Rattle.cd_cells.specs.Table.{table, Grows}
use Rattle.cd_cells.specs.declared.cell.Part.{Part}
use Rattle.cd_cells.specs.declared.values.Values.{Values}
use Rattle.cd_code.specs.Compiled.{program_of}
use Rattle.cd_code.specs.declared.code.Code.{Code}
use Rattle.cd_evaluation.specs.Code as evaluation
use Rattle.cd_evaluation.specs.Ends.{Keeps}
use Rattle.cd_evaluation.specs.Environment.{Env}
use Rattle.cd_evaluation.specs.Machine as machine
use Rattle.cd_evaluation.specs.Machine.{State, state, returning}
use Rattle.cd_evaluation.specs.Meaning.{calls, Meaning}
use Rattle.cd_evaluation.specs.Measure.{measure}
use Rattle.cd_evaluation.specs.Runs as runs
use Rattle.cd_evaluation.proofs.MachineRight.{machine_right}
use Rattle.cd_evaluation.proofs.UnwindingSteps as unwinding
use Rattle.cd_machine.specs.PlainRan.{plain_outcome, plain_ran}
use Rattle.cd_machine.specs.Inner.AtHand.{ReachesUnit}
use Rattle.cd_machine.specs.Inner.CodeIn.{code_in, IsPatternIn}
use Rattle.cd_machine.specs.Inner.Entering.{expr_turn}
use Rattle.cd_machine.specs.Inner.InOrder.{IsAfter}
use Rattle.cd_machine.specs.Inner.Known.{FunctionsAreKnown, ControlIsKnown, FrameIsKnown, TurnIsKnown}
use Rattle.cd_machine.specs.Inner.PlainFrame.{plain_control, plain_frame, plain_frames, plain_turn, env_at, pushed_by, IsControl, IsFrame, IsTurn}
use Rattle.cd_machine.specs.Inner.Resuming.{ComesTo}
use Rattle.cd_machine.specs.Inner.Running.{Waits, IsRunning, Leads, Turns, EndsAt, ComesToUnit, ComesToEnd, RunsTo, plain_state, left_to_do}
use Rattle.cd_machine.specs.Inner.Turn as turn
use Rattle.cd_machine.specs.Inner.Turn.{GoesOn, GoesFreely, GoesByUnit}
use Rattle.cd_machine.specs.declared.environments.EnvId.{EnvId}
use Rattle.cd_machine.specs.declared.frame.Frame.{Frame}
use Rattle.cd_machine.specs.declared.outcome.Outcome.{Outcome}
use Rattle.cd_machine.specs.declared.outcome.Ran.{Ran}
use Rattle.cd_machine.specs.declared.turn.Control.{Control}
use Rattle.cd_machine.specs.declared.turn.Control.TheVariants.{Evaluating, Returning}
use Rattle.cd_machine.specs.declared.turn.Turn.{Turn}
use Rattle.cd_machine.proofs.Afterwards.{after_values, same_code, same_patterns}
use Rattle.cd_machine.proofs.EnteredRight.{expr_goes}
use Rattle.cd_machine.proofs.KnownTurns.{expr_known, comes_known}
use Rattle.cd_machine.proofs.ResumedRight.{comes_to}
use Rattle.cd_machine.proofs.Staying.{env_stays, frame_stays, frames_stay, still_frames, outcome_stays}

pub leads_then : (code : evaluation.Code) (first second third : machine.Control) (one two three : List machine.Frame)
    → Leads code first one second two → Leads code second two third three → Leads code first one third three
leads_then code first second third one two three here there depth units result h = here depth units result (there depth units result h)

pub leads_same : (code : evaluation.Code) (control : machine.Control) (stack : List machine.Frame) → Leads code control stack control stack
leads_same code control stack depth units result h = h

-- to equal frames
pub leads_to : (code : evaluation.Code) (control : machine.Control) (stack stack' : List machine.Frame) → stack ≡ stack' → Leads code control stack control stack'
leads_to code control stack stack' is = subst (Leads code control stack control) is (leads_same code control stack)

module _ (code code' : Code) (old new : Values) (environments longer : List (List Part)) (after : IsAfter code old environments code' new longer) where
  -- what is known of patterns and functions of the old code is known of the new one
  functions_later : FunctionsAreKnown (IsPatternIn code) (code_in code) → FunctionsAreKnown (IsPatternIn code') (code_in code')
  functions_later functions =
      subst (λ (Fact : Tree → Type 0). FunctionsAreKnown Fact (code_in code')) (sym (same_patterns code code' after.program))
      (subst (λ (taken : evaluation.Code). FunctionsAreKnown (IsPatternIn code) taken) (sym (same_code code code' after.program)) functions)

  -- what waits goes on waiting
  waits_later : (stack : List Frame) → Waits code old environments stack → Waits code' new longer stack
  waits_later stack waits = record {
    order = after.in_order;
    functions = functions_later waits.functions;
    frames = still_frames old new after.grows environments longer after.longer waits.order.parts stack waits.frames;
    known = subst (λ (Fact : Tree → Type 0). AllOf (FrameIsKnown Fact) (plain_frames new longer stack)) (sym (same_patterns code code' after.program))
        (subst (AllOf (FrameIsKnown (IsPatternIn code))) (sym (frames_stay old new after.grows environments longer after.longer waits.order.parts stack waits.frames))
        waits.known);
  }

  -- an outcome came to a frame
  pub resumed : (outcome : Outcome) (frame : Frame) (rest : List Frame) (one : Turn) → IsRunning code old environments (Returning outcome) (frame ∷ rest)
      → ComesTo (code_in code) (plain_frame new longer frame) (plain_outcome (table new) outcome) (plain_turn new longer one) → IsTurn new longer one
      → Turns code' new longer (plain_control old environments (Returning outcome)) (plain_frames old environments (frame ∷ rest)) rest one
  resumed outcome frame rest one running comes within =
      let waits = running.waits in
      let stay = frames_stay old new after.grows environments longer after.longer waits.order.parts (frame ∷ rest) waits.frames in
      let same = outcome_stays old new after.grows outcome running.at_hand in
      let first : FrameIsKnown (IsPatternIn code) (plain_frame new longer frame) = subst (FrameIsKnown (IsPatternIn code))
      (sym (frame_stays old new after.grows environments longer after.longer waits.order.parts frame waits.frames.0)) waits.known.0 in record {
        last = plain_control old environments (Returning outcome);
        top = plain_frame new longer frame ∷ [];
        leads = leads_to (code_in code') (plain_control old environments (Returning outcome)) (plain_frames old environments (frame ∷ rest))
            (plain_frames new longer (frame ∷ rest)) (sym stay);
        at_once = λ free. (refl, sym stay);
        goes = subst (λ (code : evaluation.Code). GoesOn code (machine.Returning (plain_outcome (table old) outcome)) (plain_frame new longer frame ∷ []) (plain_turn new longer one))
            (sym (same_code code code' after.program))
            (subst (λ (outcome : runs.Outcome). GoesOn (code_in code) (machine.Returning outcome) (plain_frame new longer frame ∷ []) (plain_turn new longer one))
            same (comes_to (code_in code) (plain_frame new longer frame) (plain_outcome (table new) outcome) (plain_turn new longer one) comes));
        within = within;
        known = subst (λ (Fact : Tree → Type 0). TurnIsKnown Fact (plain_turn new longer one)) (sym (same_patterns code code' after.program))
            (comes_known (IsPatternIn code) (code_in code) waits.functions (plain_frame new longer frame) (plain_outcome (table new) outcome)
            (plain_turn new longer one) first comes);
        waits = waits_later rest record { order = waits.order; functions = waits.functions; frames = waits.frames.1; known = waits.known.1 };
      }

-- an expression was entered
pub entered : (code : Code) (old new : Values) (environments : List (List Part)) (e : Bor CodeExpr) (env : EnvId) (stack : List Frame) (one : Turn) → Grows old new
    → IsRunning code old environments (Evaluating e env) stack → plain_turn new environments one ≡ expr_turn (code_in code) (plain e.now) (env_at new environments env)
    → IsTurn new environments one
    → Turns code new environments (plain_control old environments (Evaluating e env)) (plain_frames old environments stack) stack one
entered code old new environments e env stack one grows running is within =
    let after = after_values code old new environments running.waits.order grows in
    let stay = env_stays old new grows environments environments after.longer running.waits.order.parts env running.at_hand in record {
      last = plain_control old environments (Evaluating e env);
      top = [];
      leads = leads_to (code_in code) (plain_control old environments (Evaluating e env)) (plain_frames old environments stack)
          (plain_frames new environments stack) (sym (frames_stay old new grows environments environments after.longer running.waits.order.parts stack running.waits.frames));
      at_once = λ free. (refl, sym (frames_stay old new grows environments environments after.longer running.waits.order.parts stack running.waits.frames));
      goes = subst (GoesOn (code_in code) (machine.Evaluating (plain e.now) (env_at old environments env)) []) (sym is)
          (subst (λ (around : Env). GoesOn (code_in code) (machine.Evaluating (plain e.now) around) [] (expr_turn (code_in code) (plain e.now) (env_at new environments env)))
          stay (expr_goes (code_in code) (plain e.now) (env_at new environments env)));
      within = within;
      known = subst (TurnIsKnown (IsPatternIn code)) (sym is) (expr_known (IsPatternIn code) (code_in code) (plain e.now) (env_at new environments env) running.known);
      waits = waits_later code code old new environments environments after stack running.waits;
    }

-- an operator whose operands are at hand
pub reached : (code : Code) (old new : Values) (environments : List (List Part)) (e : Bor CodeExpr) (env : EnvId) (stack : List Frame) (one : Turn) → Grows old new
    → IsRunning code old environments (Evaluating e env) stack
    → ReachesUnit (code_in code) (plain e.now) (env_at new environments env) (plain_turn new environments one) → one.takes ≡ true
    → IsTurn new environments one → TurnIsKnown (IsPatternIn code) (plain_turn new environments one)
    → Turns code new environments (plain_control old environments (Evaluating e env)) (plain_frames old environments stack) stack one
reached code old new environments e env stack one grows running reaches takes within known =
    let after = after_values code old new environments running.waits.order grows in
    let stay = env_stays old new grows environments environments after.longer running.waits.order.parts env running.at_hand in
    let same = frames_stay old new grows environments environments after.longer running.waits.order.parts stack running.waits.frames in record {
      last = reaches.last;
      top = reaches.top;
      leads = subst (λ (around : Env). Leads (code_in code) (machine.Evaluating (plain e.now) around) (plain_frames old environments stack) reaches.last
          (reaches.top ++ plain_frames new environments stack)) stay
          (subst (λ (frames : List machine.Frame). Leads (code_in code) (machine.Evaluating (plain e.now) (env_at new environments env)) frames reaches.last
          (reaches.top ++ plain_frames new environments stack)) same (reaches.leads (plain_frames new environments stack)));
      at_once = λ free. absurd (true≢false (sym takes ∙ free));
      goes = subst (λ (takes : Bool). MatchBool takes (GoesByUnit (code_in code) reaches.last reaches.top (plain_turn new environments one))
          (GoesFreely (code_in code) reaches.last reaches.top (plain_turn new environments one))) (sym takes) reaches.goes;
      within = within;
      known = known;
      waits = waits_later code code old new environments environments after stack running.waits;
    }

-- a turn by its flag
freely : (code : evaluation.Code) (control : machine.Control) (top : List machine.Frame) (one : turn.Turn) → one.takes ≡ false → GoesOn code control top one
    → GoesFreely code control top one
freely code control top one is goes =
    subst (λ (takes : Bool). MatchBool takes (GoesByUnit code control top one) (GoesFreely code control top one)) is goes

by_unit : (code : evaluation.Code) (control : machine.Control) (top : List machine.Frame) (one : turn.Turn) → one.takes ≡ true → GoesOn code control top one
    → GoesByUnit code control top one
by_unit code control top one is goes =
    subst (λ (takes : Bool). MatchBool takes (GoesByUnit code control top one) (GoesFreely code control top one)) is goes

-- what a turn comes to
module _ (code : Code) (values : Values) (environments : List (List Part)) (rest stack : List Frame) (one : Turn) (control : Control)
    (is : control ≡ one.control) (put : stack ≡ pushed_by one ++ rest) where
  frames_put : plain_frames values environments stack ≡ (plain_turn values environments one).pushed ++ plain_frames values environments rest
  frames_put = ap (plain_frames values environments) put ∙ map-append (plain_frame values environments) (pushed_by one) rest

  -- with so many units
  pub state_after : (units : ℕ) → plain_state values environments control units stack
      ≡ turn.after (plain_turn values environments one) units (plain_frames values environments rest)
  state_after units = ap (λ (control : Control). plain_state values environments control units stack) is
      ∙ ap (λ (frames : List machine.Frame). state (plain_control values environments one.control) units frames) frames_put

  pub put_runs : IsTurn values environments one → TurnIsKnown (IsPatternIn code) (plain_turn values environments one) → Waits code values environments rest
      → IsRunning code values environments control stack
  put_runs within known waits = record {
    waits = record {
      order = waits.order;
      functions = waits.functions;
      frames = subst (AllOf (IsFrame values environments)) (sym put) (each_both (IsFrame values environments) (pushed_by one) rest within.1 waits.frames);
      known = subst (AllOf (FrameIsKnown (IsPatternIn code))) (sym frames_put)
          (each_both (FrameIsKnown (IsPatternIn code)) (plain_turn values environments one).pushed (plain_frames values environments rest) known.1 waits.known);
    };
    at_hand = subst (IsControl values environments) (sym is) within.0;
    known = subst (λ (control : Control). ControlIsKnown (IsPatternIn code) (plain_control values environments control)) (sym is) known.0;
  }

  module _ (first : machine.Control) (before : List machine.Frame) (turns : Turns code values environments first before rest one) where
    goes_freely : one.takes ≡ false → GoesFreely (code_in code) turns.last turns.top (plain_turn values environments one)
    goes_freely free = freely (code_in code) turns.last turns.top (plain_turn values environments one) free turns.goes

    pub turn_leads : one.takes ≡ false → Leads (code_in code) first before (plain_control values environments control) (plain_frames values environments stack)
    turn_leads free = leads_then (code_in code) first turns.last (plain_control values environments control) before
        (turns.top ++ plain_frames values environments rest) (plain_frames values environments stack) turns.leads
        (λ depth units. subst (Keeps (code_in code) (calls (code_in code) depth) (state turns.last units (turns.top ++ plain_frames values environments rest)))
        (sym (state_after units)) ((goes_freely free).keeps depth units (plain_frames values environments rest)))

    pub turn_falls : one.takes ≡ false → left_to_do values environments control stack < measure (state first 0 before)
    turn_falls free = subst (λ (control' : machine.Control). left_to_do values environments control stack < measure (state control' 0 before)) (sym (turns.at_once free).0)
        (subst (λ (frames : List machine.Frame). left_to_do values environments control stack < measure (state turns.last 0 frames)) (sym (turns.at_once free).1)
        (subst (λ (new : State). measure new < measure (state turns.last 0 (turns.top ++ plain_frames values environments rest))) (sym (state_after 0))
        ((goes_freely free).falls 0 (plain_frames values environments rest))))

-- a turn that takes a unit
pub wants_unit : (code : Code) (values : Values) (environments : List (List Part)) (first last : machine.Control) (before middle : List machine.Frame)
    (rest : List Frame) (one : Turn) → Leads (code_in code) first before last middle → Turns code values environments last middle rest one → one.takes ≡ true
    → ComesToUnit code values environments first before rest one
wants_unit code values environments first last before middle rest one leads turns takes = record {
  last = turns.last;
  top = turns.top;
  leads = leads_then (code_in code) first last turns.last before middle (turns.top ++ plain_frames values environments rest) leads turns.leads;
  goes = by_unit (code_in code) turns.last turns.top (plain_turn values environments one) takes turns.goes;
  within = turns.within;
  known = turns.known;
  waits = turns.waits;
}

-- where no unit is left, the machine is spent
unwinds : (code : evaluation.Code) (call : Thing → Thing → runs.Run) (units : ℕ) (below : List machine.Frame)
    → Keeps code call (returning runs.Spent units below) (returning runs.Spent units [])
unwinds code call units [] result h = h
unwinds code call units (frame ∷ below) result h = unwinding.unwound code call units frame runs.Spent below (spent_past frame) result (unwinds code call units below result h)
  where
    spent_past : (frame : machine.Frame) → unwinding.IsPast frame runs.Spent
    spent_past (machine.Trying branches env) = tt
    spent_past frame = tt

-- a state that a start goes on to, where at least so many applications may stand in one another
module _ (code : evaluation.Code) (start : State) (most : ℕ) where
  abbrev pub Kept : State → Type 0
  Kept new = (depth : ℕ) → most ≤ depth → Keeps code (calls code depth) start new

  pub kept_then : (units : ℕ) (control control' : machine.Control) (stack stack' : List machine.Frame) → Kept (state control units stack)
      → Leads code control stack control' stack' → Kept (state control' units stack')
  kept_then units control control' stack stack' kept leads depth enough result h = kept depth enough result (leads depth units result h)

  -- a unit is taken
  pub kept_unit : (units left : ℕ) (control : machine.Control) (top below : List machine.Frame) (one : turn.Turn) → units ≡ left + 1 → units ≤ most
      → Kept (state control units (top ++ below)) → GoesByUnit code control top one → Kept (turn.after one left below)
  kept_unit units left control top below one is fewer kept goes depth enough result h =
      let here : Kept (state control (suc left) (top ++ below)) = subst (λ (units : ℕ). Kept (state control units (top ++ below))) (omega (arith, is)) kept in
      here depth enough result (goes.keeps depth left below (omega (arith, is, fewer, enough)) result h)

  -- none is left
  pub kept_spent : (units : ℕ) (control : machine.Control) (top below : List machine.Frame) (one : turn.Turn) → units ≡ 0
      → Kept (state control units (top ++ below)) → GoesByUnit code control top one → Kept (returning runs.Spent 0 [])
  kept_spent units control top below one is kept goes depth enough result h =
      let here : Kept (state control 0 (top ++ below)) = subst (λ (units : ℕ). Kept (state control units (top ++ below))) is kept in
      here depth enough result (goes.spent depth below result (unwinds code (calls code depth) 0 below result h))

-- the machine comes to an end
pub comes_to_end : (code code' : Code) (values : Values) (first last : machine.Control) (before middle : List machine.Frame) (outcome : Outcome)
    → program_of code' ≡ program_of code → Leads (code_in code) first before last middle → EndsAt values last middle outcome
    → ComesToEnd code' values first before outcome
comes_to_end code code' values first last before middle outcome same leads ends = record {
  leads = subst (λ (code : evaluation.Code). Leads code first before (machine.Returning (plain_outcome (table values) outcome)) []) (sym (same_code code code' same))
      (subst (Leads (code_in code) first before (machine.Returning (plain_outcome (table values) outcome))) ends.none
      (subst (λ (control : machine.Control). Leads (code_in code) first before control middle) ends.control_is leads));
  within = ends.within;
}

-- what it comes to from an argument of `main` is what the program means
module _ (code : evaluation.Code) (all : List Thing) (units : ℕ) (ran : Ran) where
  abbrev RunsOut : (given : Thing) → List machine.Frame → Type 0
  RunsOut given frames = Keeps code (calls code units) (returning (runs.Done given) units frames) (returning (plain_outcome all ran.outcome) ran.left [])

  pub means : (main self document given : Thing) (frames : List machine.Frame) → frames ≡ machine.Argument self NoExpr NoField ∷ [] → self ≡ main
      → given ≡ document → RunsTo code all units (machine.Returning (runs.Done given)) frames ran → Meaning code main document units (plain_ran all ran)
  means main self document given frames waits is same goes = machine_right code main document units (plain_outcome all ran.outcome) ran.left
      (subst (λ (given : Thing). RunsOut given (machine.Argument main NoExpr NoField ∷ [])) same
      (subst (λ (self : Thing). RunsOut given (machine.Argument self NoExpr NoField ∷ [])) is
      (subst (RunsOut given) waits (goes units (omega arith)))))
