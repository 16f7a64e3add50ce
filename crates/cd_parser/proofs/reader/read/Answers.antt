use Rattle.std.proofs.Common.{◌∙◌, sym, ap}
use Rattle.cd_lr.specs.Automaton as machine
use Rattle.cd_grammar.specs.Listed.{automaton, the_grammar}
use Rattle.cd_parser.specs.PlainStacks.{plain_stack}
use Rattle.cd_parser.specs.PlainSteps.{plain_state, plain_outcome}
use Rattle.cd_parser.specs.Reading.{entries}
use Rattle.cd_parser.proofs.Steps.{longer}
use Rattle.cd_parser.proofs.Agreement.{falls, at_token, wrong, too_deep, all_read}
use Rattle.cd_parser.proofs.reader.read.Goals as goal

pub loop-state-smaller : goal.loop-state-smaller
loop-state-smaller g c =
    falls c.args.goal c.args.most c.args.tokens.now (plain_state g.P.Parts.plain c.loop-state.state) (plain_state g.P.Parts.plain c.step.new.self)
    c.loop-state.invariant.0
    (sym c.in_ok-step.ensures.step ∙ ap (λ outcome. plain_outcome g.P.Parts.plain outcome c.step.new.self) c.in-On.is)

pub loop-state-preserved : goal.loop-state-preserved
loop-state-preserved g c = (
  longer c.args.most (machine.begin the_grammar automaton c.args.most (entries c.args.goal c.args.tokens.now))
      (plain_state g.P.Parts.plain c.loop-state.state) (plain_state g.P.Parts.plain c.step.new.self) c.loop-state.invariant.0
      (sym c.in_ok-step.ensures.step ∙ ap (λ outcome. plain_outcome g.P.Parts.plain outcome c.step.new.self) c.in-On.is),
  c.step.ensures.text ∙ c.loop-state.invariant.1,
)

pub returns-in-Accept : goal.returns-in-Accept
returns-in-Accept g c =
    let was = c.loop-state.state in
    let place = at_token c.args.goal c.args.most c.args.tokens.now was.index was.tokens.now c.loop-state.invariant.1 in
    all_read g.P.Parts.plain c.args.goal c.args.most c.args.tokens.now (plain_state g.P.Parts.plain was) was.index
    (plain_stack g.P.Parts.plain c.step.new.self.stack.items) c.accepted.result c.loop-state.invariant.0
    (sym c.in_ok-step.ensures.step ∙ ap (λ outcome. plain_outcome g.P.Parts.plain outcome c.step.new.self) c.in-Accept.is) place
    c.accepted.ensures

pub returns-in-Wrong : goal.returns-in-Wrong
returns-in-Wrong g c =
    let was = c.loop-state.state in
    let place = at_token c.args.goal c.args.most c.args.tokens.now was.index was.tokens.now c.loop-state.invariant.1 in
    wrong g.P.Parts.plain c.args.goal c.args.most c.args.tokens.now (plain_state g.P.Parts.plain was) was.index c.loop-state.invariant.0
    (sym c.in_ok-step.ensures.step ∙ ap (λ outcome. plain_outcome g.P.Parts.plain outcome c.step.new.self) c.in-Wrong.is) place

pub returns-in-TooDeep : goal.returns-in-TooDeep
returns-in-TooDeep g c =
    let was = c.loop-state.state in
    let place = at_token c.args.goal c.args.most c.args.tokens.now was.index was.tokens.now c.loop-state.invariant.1 in
    too_deep g.P.Parts.plain c.args.goal c.args.most c.args.tokens.now (plain_state g.P.Parts.plain was) was.index c.loop-state.invariant.0
    (sym c.in_ok-step.ensures.step ∙ ap (λ outcome. plain_outcome g.P.Parts.plain outcome c.step.new.self) c.in-TooDeep.is) place
