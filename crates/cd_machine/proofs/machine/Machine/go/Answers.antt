use Rattle.std.proofs.Common.{◌≡◌, ◌-◌, ◌++◌, ◌∙◌, List, [], arith, sym, subst}
use Rattle.cd_cells.specs.Table.{table}
use Rattle.cd_cells.specs.declared.cell.Part.{Part}
use Rattle.cd_evaluation.specs.Code as evaluation
use Rattle.cd_evaluation.specs.Machine as machine
use Rattle.cd_evaluation.specs.Machine.{State}
use Rattle.cd_code.specs.Compiled.{program_of}
use Rattle.cd_machine.specs.PlainRan.{plain_outcome}
use Rattle.cd_machine.specs.Inner.CodeIn.{code_in}
use Rattle.cd_machine.specs.Inner.InOrder.{IsAfter}
use Rattle.cd_machine.specs.Inner.PlainFrame.{plain_control, plain_frames, plain_turn}
use Rattle.cd_machine.specs.Inner.Running.{IsRunning, Leads, Stops, ComesToUnit, ComesToEnd, plain_state}
use Rattle.cd_machine.specs.Inner.Turn.{GoesByUnit}
use Rattle.cd_machine.proofs.Afterwards.{after_then, same_code}
use Rattle.cd_machine.proofs.MachineRuns.{Kept, kept_then, kept_unit, kept_spent, put_runs, state_after}
use Rattle.cd_machine.proofs.machine.Machine.go.Goals as goal
use Rattle.cd_machine.proofs.machine.Machine.go.Goals.{In_ok-outcome, In-Turn}

-- where the machine is, and where it began
abbrev last : In_ok-outcome → machine.Control
last c = plain_control c.units.values c.units.self.environments c.units.control

abbrev middle : In_ok-outcome → List machine.Frame
middle c = plain_frames c.units.values c.units.self.environments c.units.self.stack

abbrev start : In_ok-outcome → State
start c = plain_state c.args.values.now c.args.self.now.environments c.args.control c.args.units c.args.self.now.stack

-- the program is the same all along
same : (c : In_ok-outcome) → program_of c.to_unit.new.code ≡ program_of c.args.code.now
same c = (c.in_ok-outcome.ensures {u = tt}).after.program ∙ c.units.invariant.after.program

same_taken : (c : In_ok-outcome) → code_in c.to_unit.new.code ≡ code_in c.args.code.now
same_taken c = same_code c.args.code.now c.to_unit.new.code (same c)

-- a unit is wanted
unit : (c : In-Turn) → ComesToUnit c.to_unit.new.code c.to_unit.new.values c.to_unit.new.self.environments
    (plain_control c.units.values c.units.self.environments c.units.control)
    (plain_frames c.units.values c.units.self.environments c.units.self.stack) c.to_unit.new.self.stack c.in-Turn.turn
unit c = subst (Stops c.to_unit.new.code c.to_unit.new.values c.to_unit.new.self.environments
    (plain_control c.units.values c.units.self.environments c.units.control)
    (plain_frames c.units.values c.units.self.environments c.units.self.stack) c.to_unit.new.self.stack) c.in-Turn.is (c.in_ok-outcome.ensures {u = tt}).stops

pub returns-in-End-clause-ran : goal.returns-in-End-clause-ran
returns-in-End-clause-ran c =
    let at = (goal.at.returns-in-End-clause-ran c).In_ok-outcome in
    let ends : ComesToEnd c.to_unit.new.code c.to_unit.new.values (last at) (middle at) c.in-End.outcome =
    subst (Stops c.to_unit.new.code c.to_unit.new.values c.to_unit.new.self.environments (last at) (middle at) c.to_unit.new.self.stack) c.in-End.is
    (c.in_ok-outcome.ensures {u = tt}).stops in
    let end = machine.Returning (plain_outcome (table c.to_unit.new.values) c.in-End.outcome) in
    kept_then (code_in c.args.code.now) (start at) c.args.units c.units.units (last at) end (middle at) [] c.units.invariant.kept
    (subst (λ (code : evaluation.Code). Leads code (last at) (middle at) end []) (same_taken at) ends.leads)

pub returns-then-units-eq0-clause-ran : goal.returns-then-units-eq0-clause-ran
returns-then-units-eq0-clause-ran c =
    let at = (goal.at.returns-then-units-eq0-clause-ran c).In_ok-outcome in
    let wanted = unit (goal.at.returns-then-units-eq0-clause-ran c).In-Turn in
    let code = code_in c.args.code.now in
    let below = plain_frames c.to_unit.new.values c.to_unit.new.self.environments c.to_unit.new.self.stack in
    let one = plain_turn c.to_unit.new.values c.to_unit.new.self.environments c.in-Turn.turn in
    kept_spent code (start at) c.args.units c.units.units wanted.last wanted.top below one c.if-units-eq0.true
    (kept_then code (start at) c.args.units c.units.units (last at) wanted.last (middle at) (wanted.top ++ below) c.units.invariant.kept
    (subst (λ (code : evaluation.Code). Leads code (last at) (middle at) wanted.last (wanted.top ++ below)) (same_taken at) wanted.leads))
    (subst (λ (code : evaluation.Code). GoesByUnit code wanted.last wanted.top one) (same_taken at) wanted.goes)

pub units-preserved : goal.units-preserved
units-preserved c =
    let at = (goal.at.units-preserved c).In_ok-outcome in
    let wanted = unit (goal.at.units-preserved c).In-Turn in
    let put = c.in_ok-control-in-Turn.ensures {u = tt} in
    let code = code_in c.args.code.now in
    let later = c.to_unit.new.code in
    let new = c.to_unit.new.values in
    let environments = c.to_unit.new.self.environments in
    let rest = c.to_unit.new.self.stack in
    let stack = c.put.new.self.stack in
    let control = c.in_ok-control-in-Turn.control in
    let left = c.units.units - 1 in
    let below = plain_frames new environments rest in
    let one = plain_turn new environments c.in-Turn.turn in
    let kept : Kept code (start at) c.args.units (plain_state new environments control left stack) =
    subst (Kept code (start at) c.args.units) (sym (state_after later new environments rest stack c.in-Turn.turn control put.control put.stack left))
    (kept_unit code (start at) c.args.units c.units.units left wanted.last wanted.top below one (omega arith) c.units.invariant.fewer
    (kept_then code (start at) c.args.units c.units.units (last at) wanted.last (middle at) (wanted.top ++ below) c.units.invariant.kept
    (subst (λ (code : evaluation.Code). Leads code (last at) (middle at) wanted.last (wanted.top ++ below)) (same_taken at) wanted.leads))
    (subst (λ (code : evaluation.Code). GoesByUnit code wanted.last wanted.top one) (same_taken at) wanted.goes)) in record {
      running = subst (λ (all : List (List Part)). IsRunning later new all control stack) (sym put.environments)
          (put_runs later new environments rest stack c.in-Turn.turn control put.control put.stack wanted.within wanted.known wanted.waits);
      after = subst (λ (all : List (List Part)). IsAfter c.args.code.now c.args.values.now c.args.self.now.environments later new all) (sym put.environments)
          (after_then c.args.code.now c.args.values.now c.args.self.now.environments c.units.code c.units.values c.units.self.environments later new environments
          c.units.invariant.after (c.in_ok-outcome.ensures {u = tt}).after);
      fewer = omega (arith, c.units.invariant.fewer);
      kept = subst (λ (all : List (List Part)). Kept code (start at) c.args.units (plain_state new all control left stack)) (sym put.environments) kept;
    }

pub returns-in-End-clause-after : goal.returns-in-End-clause-after
returns-in-End-clause-after c = after_then c.args.code.now c.args.values.now c.args.self.now.environments c.units.code c.units.values c.units.self.environments
    c.to_unit.new.code c.to_unit.new.values c.to_unit.new.self.environments c.units.invariant.after c.to_unit.ensures.after

pub returns-then-units-eq0-clause-after : goal.returns-then-units-eq0-clause-after
returns-then-units-eq0-clause-after c = after_then c.args.code.now c.args.values.now c.args.self.now.environments c.units.code c.units.values c.units.self.environments
    c.to_unit.new.code c.to_unit.new.values c.to_unit.new.self.environments c.units.invariant.after c.to_unit.ensures.after

-- memory ran out
pub returns-in_err-outcome-clause-after : goal.returns-in_err-outcome-clause-after
returns-in_err-outcome-clause-after c = after_then c.args.code.now c.args.values.now c.args.self.now.environments c.units.code c.units.values c.units.self.environments
    c.to_unit.new.code c.to_unit.new.values c.to_unit.new.self.environments c.units.invariant.after c.to_unit.ensures.after

pub returns-in_err-control-in-Turn-clause-after : goal.returns-in_err-control-in-Turn-clause-after
returns-in_err-control-in-Turn-clause-after c =
    subst (λ (all : List (List Part)). IsAfter c.args.code.now c.args.values.now c.args.self.now.environments c.to_unit.new.code c.to_unit.new.values all)
    (sym c.put.ensures.environments)
    (after_then c.args.code.now c.args.values.now c.args.self.now.environments c.units.code c.units.values c.units.self.environments c.to_unit.new.code
    c.to_unit.new.values c.to_unit.new.self.environments c.units.invariant.after c.to_unit.ensures.after)
