use Rattle.std.proofs.Common.{◌∙◌, refl, ap, Some}
use Rattle.cd_graph.specs.Nodes.{nodes}
use Rattle.cd_cells.specs.Table.{table}
use Rattle.cd_matching.specs.PlainKernel.{plain_node, plain_nodes}
use Rattle.cd_taking.proofs.Stepping.{answers, known_on}
use Rattle.cd_taking.proofs.look.look_by.Goals as goal

pub returns-in_ok-answer-in-Test-clause-step : goal.returns-in_ok-answer-in-Test-clause-step
returns-in_ok-answer-in-Test-clause-step c =
    answers (nodes c.args.tests.now.graph) c.args.tests.now.maps (plain_nodes c.args.kernel.now.nodes.items) (table c.args.values.now) c.args.taker.now
    c.args.value c.args.node c.in-Test.type_id c.in_ok-answer-in-Test.answer c.answered.result c.answered.ensures.is c.answered.ensures.within
    (c.requires.is ∙ ap (λ node. Some (plain_node node)) c.in-Test.is) c.in_ok-answer-in-Test.ensures.asked c.requires.within

pub returns-in-Put-clause-stays : goal.returns-in-Put-clause-stays
returns-in-Put-clause-stays c = record {
  graph = refl;
  maps = refl;
  knows = known_on (nodes c.args.tests.now.graph) c.args.values.now c.put.new.values c.put.ensures.grows c.args.tests.now.asker c.requires.knows;
  grows = c.put.ensures.grows;
}
