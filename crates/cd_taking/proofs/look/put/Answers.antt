use Rattle.cd_matching.specs.PlainKernel.{plain_nodes}
use Rattle.cd_taking.specs.declared.frame.Next.TheVariants.{Look}
use Rattle.cd_taking.specs.Inner.Machine.{puts}
use Rattle.cd_taking.proofs.Stepping.{caught}
use Rattle.cd_taking.proofs.look.put.Goals as goal

pub returns-clause-step : goal.returns-clause-step
returns-clause-step c = λ graph maps.
    caught graph maps (plain_nodes c.args.kernel.now.nodes.items) c.args.values.now c.constant.new.values c.in_ok-made.ensures.grows
    (record { variable = c.args.variable; value = c.in_ok-made.made }) c.args.taker.now c.capture.new.self (Look c.args.value c.args.node) c.in_ok-capture.ensures
    (puts _ _ _ _ _ _ _ _ c.requires.is c.in_ok-made.ensures.is.is) c.requires.within c.in_ok-made.ensures.is.within
