use Rattle.std.proofs.Common.{◌≡◌, ◌<◌, ◌∙◌, List, sym, subst}
use Rattle.cd_cells.specs.declared.cell.Part.{Part}
use Rattle.cd_evaluation.specs.Code as evaluation
use Rattle.cd_code.specs.Compiled.{program_of}
use Rattle.cd_machine.specs.Inner.CodeIn.{code_in}
use Rattle.cd_machine.specs.Inner.InOrder.{IsAfter}
use Rattle.cd_machine.specs.Inner.PlainFrame.{plain_control, plain_frames}
use Rattle.cd_machine.specs.Inner.Running.{IsRunning, Leads, Turns, EndsAt, TurnsOrEnds, left_to_do}
use Rattle.cd_machine.proofs.Afterwards.{after_then, same_code}
use Rattle.cd_machine.proofs.MachineRuns.{comes_to_end, wants_unit, leads_then, put_runs, turn_leads, turn_falls}
use Rattle.cd_machine.proofs.machine.Machine.to_unit.Goals as goal
use Rattle.cd_machine.proofs.machine.Machine.to_unit.Goals.{In_ok-outcome, In-Turn}

-- the program is the same all along
same : (c : In_ok-outcome) → program_of c.turn.new.code ≡ program_of c.args.code.now
same c = (c.in_ok-outcome.ensures {u = tt}).after.program ∙ c.free.invariant.after.program

-- the turn from where the machine is
turns : (c : In-Turn) → Turns c.turn.new.code c.turn.new.values c.turn.new.self.environments (plain_control c.free.values c.free.self.environments c.free.control)
    (plain_frames c.free.values c.free.self.environments c.free.self.stack) c.turn.new.self.stack c.in-Turn.turn
turns c = subst (TurnsOrEnds c.turn.new.code c.turn.new.values c.turn.new.self.environments (plain_control c.free.values c.free.self.environments c.free.control)
    (plain_frames c.free.values c.free.self.environments c.free.self.stack) c.turn.new.self.stack) c.in-Turn.is (c.in_ok-outcome.ensures {u = tt}).turns

pub returns-in-End-clause-stops : goal.returns-in-End-clause-stops
returns-in-End-clause-stops c =
    let last = plain_control c.free.values c.free.self.environments c.free.control in
    let middle = plain_frames c.free.values c.free.self.environments c.free.self.stack in
    let ends : EndsAt c.turn.new.values last middle c.in-End.outcome =
    subst (TurnsOrEnds c.turn.new.code c.turn.new.values c.turn.new.self.environments last middle c.turn.new.self.stack) c.in-End.is
    (c.in_ok-outcome.ensures {u = tt}).turns in
    comes_to_end c.args.code.now c.turn.new.code c.turn.new.values (plain_control c.args.values.now c.args.self.now.environments c.args.control) last
    (plain_frames c.args.values.now c.args.self.now.environments c.args.self.now.stack) middle c.in-End.outcome
    (same (goal.at.returns-in-End-clause-stops c).In_ok-outcome) c.free.invariant.leads ends

pub returns-then-turn-clause-stops : goal.returns-then-turn-clause-stops
returns-then-turn-clause-stops c =
    let first = plain_control c.args.values.now c.args.self.now.environments c.args.control in
    let before = plain_frames c.args.values.now c.args.self.now.environments c.args.self.now.stack in
    let last = plain_control c.free.values c.free.self.environments c.free.control in
    let middle = plain_frames c.free.values c.free.self.environments c.free.self.stack in
    wants_unit c.turn.new.code c.turn.new.values c.turn.new.self.environments first last before middle c.turn.new.self.stack c.in-Turn.turn
    (subst (λ (code : evaluation.Code). Leads code first before last middle)
    (sym (same_code c.args.code.now c.turn.new.code (same (goal.at.returns-then-turn-clause-stops c).In_ok-outcome))) c.free.invariant.leads)
    (turns (goal.at.returns-then-turn-clause-stops c).In-Turn) c.if-turn.true

pub free-smaller : goal.free-smaller
free-smaller c =
    let put = c.in_ok-control-in-Turn.ensures {u = tt} in
    let last = plain_control c.free.values c.free.self.environments c.free.control in
    let middle = plain_frames c.free.values c.free.self.environments c.free.self.stack in
    subst (λ (environments : List (List Part)). left_to_do c.turn.new.values environments c.in_ok-control-in-Turn.control c.put.new.self.stack
    < left_to_do c.free.values c.free.self.environments c.free.control c.free.self.stack) (sym put.environments)
    (turn_falls c.turn.new.code c.turn.new.values c.turn.new.self.environments c.turn.new.self.stack c.put.new.self.stack c.in-Turn.turn
    c.in_ok-control-in-Turn.control put.control put.stack last middle (turns (goal.at.free-smaller c).In-Turn) c.if-turn.false)

pub free-preserved : goal.free-preserved
free-preserved c =
    let put = c.in_ok-control-in-Turn.ensures {u = tt} in
    let code = c.args.code.now in
    let later = c.turn.new.code in
    let new = c.turn.new.values in
    let environments = c.turn.new.self.environments in
    let stack = c.put.new.self.stack in
    let control = c.in_ok-control-in-Turn.control in
    let first = plain_control c.args.values.now c.args.self.now.environments c.args.control in
    let before = plain_frames c.args.values.now c.args.self.now.environments c.args.self.now.stack in
    let last = plain_control c.free.values c.free.self.environments c.free.control in
    let middle = plain_frames c.free.values c.free.self.environments c.free.self.stack in
    let one = turns (goal.at.free-preserved c).In-Turn in
    let goes : Leads (code_in code) last middle (plain_control new environments control) (plain_frames new environments stack) =
    subst (λ (taken : evaluation.Code). Leads taken last middle (plain_control new environments control) (plain_frames new environments stack))
    (same_code code later (same (goal.at.free-preserved c).In_ok-outcome))
    (turn_leads later new environments c.turn.new.self.stack stack c.in-Turn.turn control put.control put.stack last middle one c.if-turn.false) in record {
      running = subst (λ (all : List (List Part)). IsRunning later new all control stack) (sym put.environments)
          (put_runs later new environments c.turn.new.self.stack stack c.in-Turn.turn control put.control put.stack one.within one.known one.waits);
      after = subst (λ (all : List (List Part)). IsAfter code c.args.values.now c.args.self.now.environments later new all) (sym put.environments)
          (after_then code c.args.values.now c.args.self.now.environments c.free.code c.free.values c.free.self.environments later new environments
          c.free.invariant.after (c.in_ok-outcome.ensures {u = tt}).after);
      leads = subst (λ (all : List (List Part)). Leads (code_in code) first before (plain_control new all control) (plain_frames new all stack)) (sym put.environments)
          (leads_then (code_in code) first last (plain_control new environments control) before middle (plain_frames new environments stack)
          c.free.invariant.leads goes);
    }

-- memory ran out
pub returns-in_err-outcome-clause-after : goal.returns-in_err-outcome-clause-after
returns-in_err-outcome-clause-after c = after_then c.args.code.now c.args.values.now c.args.self.now.environments c.free.code c.free.values c.free.self.environments
    c.turn.new.code c.turn.new.values c.turn.new.self.environments c.free.invariant.after c.turn.ensures.after

pub returns-in_err-control-in-Turn-clause-after : goal.returns-in_err-control-in-Turn-clause-after
returns-in_err-control-in-Turn-clause-after c =
    subst (λ (all : List (List Part)). IsAfter c.args.code.now c.args.values.now c.args.self.now.environments c.turn.new.code c.turn.new.values all)
    (sym c.put.ensures.environments)
    (after_then c.args.code.now c.args.values.now c.args.self.now.environments c.free.code c.free.values c.free.self.environments c.turn.new.code
    c.turn.new.values c.turn.new.self.environments c.free.invariant.after c.turn.ensures.after)
