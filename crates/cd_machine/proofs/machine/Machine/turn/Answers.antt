use Rattle.std.proofs.Common.{List, sym, subst}
use Rattle.cd_machine.specs.Inner.PlainFrame.{plain_control, plain_frames}
use Rattle.cd_machine.specs.Inner.Running.{IsRunning, Turns}
use Rattle.cd_machine.specs.declared.frame.Frame.{Frame}
use Rattle.cd_machine.specs.declared.turn.Control.{Control}
use Rattle.cd_machine.specs.declared.turn.Control.TheVariants.{Returning}
use Rattle.cd_machine.proofs.Afterwards.{after_values}
use Rattle.cd_program.specs.PlainExpr.{plain}
use Rattle.cd_machine.proofs.MachineRuns.{entered, resumed, reached}
use Rattle.cd_machine.proofs.OperatorsAtHand.{reaches_of, takes_of, within_of, known_of}
use Rattle.cd_cells.proofs.GrownTables.{further}
use Rattle.cd_machine.proofs.Staying.{still_each}
use Rattle.cd_machine.proofs.machine.Machine.turn.Goals as goal

-- an expression
pub returns-in_ok-turn-in-Evaluating-2-clause-turns : goal.returns-in_ok-turn-in-Evaluating-2-clause-turns
returns-in_ok-turn-in-Evaluating-2-clause-turns c =
    let code = c.args.code.now in
    let old = c.args.values.now in
    let new = c.enter.new.values in
    let environments = c.args.self.now.environments in
    let stack = c.args.self.now.stack in
    let turn = c.in_ok-turn-in-Evaluating-2.ensures {u = tt} in
    subst (λ (control : Control). Turns code new environments (plain_control old environments control) (plain_frames old environments stack) stack
    c.in_ok-turn-in-Evaluating-2.turn) (sym c.in-Evaluating.is)
    (entered code old new environments c.in-Evaluating.expr c.in-Evaluating.env stack c.in_ok-turn-in-Evaluating-2.turn (further old c.operator_at_hand.new.values new c.operator_at_hand.ensures.grows turn.grows)
    (subst (λ (control : Control). IsRunning code old environments control stack) c.in-Evaluating.is c.requires) turn.next turn.within)

pub returns-in_ok-turn-in-Evaluating-2-clause-after : goal.returns-in_ok-turn-in-Evaluating-2-clause-after
returns-in_ok-turn-in-Evaluating-2-clause-after c = after_values c.args.code.now c.args.values.now c.enter.new.values c.args.self.now.environments
    c.requires.waits.order
    (further c.args.values.now c.operator_at_hand.new.values c.enter.new.values c.operator_at_hand.ensures.grows (c.in_ok-turn-in-Evaluating-2.ensures {u = tt}).grows)

-- an outcome, and the frame on the top
pub returns-in_ok-turn-in-Some-pop-clause-turns : goal.returns-in_ok-turn-in-Some-pop-clause-turns
returns-in_ok-turn-in-Some-pop-clause-turns c =
    let code = c.args.code.now in
    let old = c.args.values.now in
    let new = c.resume.new.values in
    let environments = c.args.self.now.environments in
    let rest = c.pop.new.self in
    let turn = c.in_ok-turn-in-Some-pop.ensures {u = tt} in
    let top = c.in-Some-pop.ensures {u = tt} in
    let one = c.in_ok-turn-in-Some-pop.turn in
    subst (λ (control : Control). Turns c.resume.new.code new c.resume.new.environments (plain_control old environments control)
    (plain_frames old environments c.args.self.now.stack) rest one) (sym c.in-Returning.is)
    (subst (λ (stack : List Frame). Turns c.resume.new.code new c.resume.new.environments (plain_control old environments (Returning c.in-Returning.outcome))
    (plain_frames old environments stack) rest one) (sym top)
    (resumed code c.resume.new.code old new environments c.resume.new.environments turn.after c.in-Returning.outcome c.in-Some-pop.frame rest one
    (subst (λ (stack : List Frame). IsRunning code old environments (Returning c.in-Returning.outcome) stack) top
    (subst (λ (control : Control). IsRunning code old environments control c.args.self.now.stack) c.in-Returning.is c.requires)) turn.comes turn.within))

-- an operator whose operands are at hand
pub enter-requires-clause-sound : goal.enter-requires-clause-sound
enter-requires-clause-sound c =
    still_each c.args.values.now c.operator_at_hand.new.values c.operator_at_hand.ensures.grows c.args.self.now.environments c.requires.waits.order.parts

pub returns-in-Some-clause-turns : goal.returns-in-Some-clause-turns
returns-in-Some-clause-turns c =
    let code = c.args.code.now in
    let old = c.args.values.now in
    let new = c.operator_at_hand.new.values in
    let environments = c.args.self.now.environments in
    let stack = c.args.self.now.stack in
    let e = plain c.in-Evaluating.expr.now in
    let env = c.in-Evaluating.env in
    let one = c.in-Some.turn in
    let comes = rw c.in-Some.is at (c.in_ok-turn-in-Evaluating.ensures {u = tt}).comes in
    subst (λ (control : Control). Turns code new environments (plain_control old environments control) (plain_frames old environments stack) stack one)
    (sym c.in-Evaluating.is)
    (reached code old new environments c.in-Evaluating.expr env stack one c.operator_at_hand.ensures.grows
    (subst (λ (control : Control). IsRunning code old environments control stack) c.in-Evaluating.is c.requires)
    (reaches_of code new environments env one e comes) (takes_of code new environments env one e comes)
    (within_of code new environments env one e comes) (known_of code new environments env one e comes))

pub returns-in-Some-clause-after : goal.returns-in-Some-clause-after
returns-in-Some-clause-after c = after_values c.args.code.now c.args.values.now c.operator_at_hand.new.values c.args.self.now.environments
    c.requires.waits.order c.operator_at_hand.ensures.grows

-- memory ran out
pub returns-in_err-turn-in-Evaluating-clause-after : goal.returns-in_err-turn-in-Evaluating-clause-after
returns-in_err-turn-in-Evaluating-clause-after c = after_values c.args.code.now c.args.values.now c.operator_at_hand.new.values c.args.self.now.environments
    c.requires.waits.order c.operator_at_hand.ensures.grows

pub returns-in_err-turn-in-Evaluating-2-clause-after : goal.returns-in_err-turn-in-Evaluating-2-clause-after
returns-in_err-turn-in-Evaluating-2-clause-after c = after_values c.args.code.now c.args.values.now c.enter.new.values c.args.self.now.environments
    c.requires.waits.order (further c.args.values.now c.operator_at_hand.new.values c.enter.new.values c.operator_at_hand.ensures.grows c.enter.ensures.grows)
