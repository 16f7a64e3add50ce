use Rattle.cd_matching.specs.PlainKernel.{plain_nodes}
use Rattle.cd_taking.specs.declared.frame.Next.TheVariants.{Look}
use Rattle.cd_taking.specs.Inner.Machine.{binds}
use Rattle.cd_cells.proofs.GrownTables.{itself}
use Rattle.cd_taking.proofs.Stepping.{caught}
use Rattle.cd_taking.proofs.look.bind.Goals as goal

pub returns : goal.returns
returns c = λ graph maps.
    caught graph maps (plain_nodes c.args.kernel.now.nodes.items) c.args.values.now c.args.values.now (itself c.args.values.now)
    (record { variable = c.args.variable; value = c.args.value }) c.args.taker.now c.capture.new.self (Look c.args.value c.args.node) c.in_ok-capture.ensures
    (binds _ _ _ _ _ _ c.requires.is) c.requires.within c.requires.value
