use Rattle.std.proofs.Common.{refl}
use Rattle.cd_graph.specs.Nodes.{nodes}
use Rattle.cd_taking.proofs.Stepping.{known_on}
use Rattle.cd_taking.proofs.running.step.Goals as goal

pub returns-in-Yes-clause-stays : goal.returns-in-Yes-clause-stays
returns-in-Yes-clause-stays c = record {
  graph = refl;
  maps = refl;
  knows = known_on (nodes c.args.tests.now.graph) c.args.values.now c.after_yes.new.values c.after_yes.ensures.grows c.args.tests.now.asker c.requires.knows;
  grows = c.after_yes.ensures.grows;
}
