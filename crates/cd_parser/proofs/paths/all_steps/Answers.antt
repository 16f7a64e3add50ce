use Rattle.cd_parser.proofs.PathsLed.{one_more}
use Rattle.cd_parser.proofs.paths.all_steps.Goals as goal

pub loop-step-preserved : goal.loop-step-preserved
loop-step-preserved c =
    one_more c.args.here c.loop-step.steps.items c.pop.new.self.items c.in-Some.step c.loop-step.reached
    c.in_ok-reached.reached _ c.in-Some.ensures.items c.in_ok-reached.ensures c.loop-step.invariant
