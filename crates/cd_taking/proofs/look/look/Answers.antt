use Rattle.std.proofs.Common.{sym}
use Rattle.cd_graph.specs.Nodes.{nodes}
use Rattle.cd_cells.specs.Table.{table}
use Rattle.cd_matching.specs.PlainKernel.{plain_nodes}
use Rattle.cd_taking.specs.declared.frame.Next.TheVariants.{Look, No}
use Rattle.cd_taking.specs.Inner.Machine.{missing}
use Rattle.cd_taking.proofs.Stepping.{stays}
use Rattle.cd_taking.proofs.look.look.Goals as goal

pub returns-in-None-clause-step : goal.returns-in-None-clause-step
returns-in-None-clause-step c =
    stays (nodes c.args.tests.now.graph) c.args.tests.now.maps (plain_nodes c.args.kernel.now.nodes.items) (table c.args.values.now) c.args.taker.now
    (Look c.args.value c.args.node) No (missing _ _ _ _ _ (sym c.in-None.ensures)) c.requires.within tt
