use Rattle.std.proofs.Common.{◌∙◌, ap, drop}
use Rattle.cd_lr.specs.Automaton as machine
use Rattle.cd_parser.specs.PlainStacks.{plain_stack}
use Rattle.cd_parser.proofs.Steps.{reduce_step}
use Rattle.cd_parser.proofs.state.State.step.Goals as goal

pub returns-in_ok-reduce-in-Reduce-clause-step : goal.returns-in_ok-reduce-in-Reduce-clause-step
returns-in_ok-reduce-in-Reduce-clause-step g c =
    let was = c.args.self.now in
    let at = c.state_of.ensures ∙ ap (λ items. machine.state_of (plain_stack g.P.Parts.plain items)) c.deref.ensures.value in
    reduce_step c.args.most c.state_of.result was.terminal c.in-Reduce.rule (plain_stack g.P.Parts.plain was.stack.items)
    (plain_stack g.P.Parts.plain c.reduce.new.stack.items) (drop was.index was.tokens.now) c.in-Reduce.ensures at was.ahead
    c.in_ok-reduce-in-Reduce.ensures
