use Rattle.std.proofs.Common.{refl}
use Rattle.cd_matching.specs.PlainKernel.{plain_nodes}
use Rattle.cd_taking.proofs.Stepping.{gathered}
use Rattle.cd_taking.proofs.resume.end_pair.Goals as goal

pub returns-clause-step : goal.returns-clause-step
returns-clause-step c = λ graph maps.
    gathered graph maps (plain_nodes c.args.kernel.now.nodes.items) c.args.values.now c.gather.new.values c.in_ok-gather.ensures.grows c.args.pair c.args.node c.args.mark c.args.taker.now _ refl refl
    c.in_ok-gather.ensures.gathers c.in_ok-gather.ensures.within c.requires
