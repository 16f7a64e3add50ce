use Rattle.cd_cells.specs.Table.{table}
use Rattle.cd_matching.specs.PlainKernel.{plain_nodes}
use Rattle.cd_taking.specs.declared.frame.Frame.TheVariants.{And}
use Rattle.cd_taking.specs.declared.frame.Next.TheVariants.{Look}
use Rattle.cd_taking.specs.Inner.Machine.{joins}
use Rattle.cd_taking.proofs.Stepping.{pushed}
use Rattle.cd_taking.proofs.look.both.Goals as goal

pub returns : goal.returns
returns c = λ graph maps.
    pushed graph maps (plain_nodes c.args.kernel.now.nodes.items) (table c.args.values.now) (And c.args.value c.args.parts.1) c.args.taker.now c.push.new.self
    (Look c.args.value c.args.node) (Look c.args.value c.args.parts.0) c.in_ok-push.ensures
    (joins _ _ _ _ _ _ _ c.requires.is) c.requires.within c.requires.value c.requires.value
