use Rattle.std.proofs.Common.{◌∙◌}
use Rattle.cd_empty.specs.Seen.{graph_of, table_of}
use Rattle.cd_empty.proofs.GrowingWorlds.{and_further}
use Rattle.cd_apply.specs.Inner.PlainClauses.{plain_function_clause}
use Rattle.cd_apply.proofs.ImagesGathered.{clause_within, fails_among, further_as_found}
use Rattle.cd_apply.proofs.image.image_of.Goals as goal

pub add_clause-requires-clause-clause : goal.add_clause-requires-clause-clause
add_clause-requires-clause-clause c = clause_within (graph_of c.args.world.now) c.args.argument
    plain_function_clause c.args.clauses.now c.loop-clause.clause-index c.clause-item.result
    c.loop-clause-test.true c.clause-item.is c.requires.clauses (graph_of c.loop-clause.world)
    c.loop-clause.invariant.graph

pub returns-in-Some-clause-image : goal.returns-in-Some-clause-image
returns-in-Some-clause-image c = fails_among (graph_of c.args.world.now) c.args.argument
    plain_function_clause c.args.clauses.now c.loop-clause.clause-index c.clause-item.result
    c.loop-clause-test.true c.clause-item.is (graph_of c.loop-clause.world)
    c.loop-clause.invariant.graph (table_of c.add_clause.new.world) c.loop-clause.questions.items
    c.add_clause.new.questions.items c.in_ok-element.field-0 c.in_ok-element.ensures.added
    c.in-Some.element c.in-Some.is

pub loop-clause-preserved : goal.loop-clause-preserved
loop-clause-preserved c =
    let so_far = c.loop-clause.invariant in
    let step = c.in_ok-element.ensures in record {
      image = further_as_found (graph_of c.args.world.now) c.args.argument plain_function_clause
          c.args.clauses.now c.loop-clause.clause-index c.clause-item.result
          c.loop-clause-test.true c.clause-item.is (graph_of c.loop-clause.world) so_far.graph
          (table_of c.add_clause.new.world) c.loop-clause.questions.items
          c.add_clause.new.questions.items c.in_ok-element.field-0 step.added c.in_default.is
          so_far.image;
      graph = step.graph ∙ so_far.graph;
      grows = and_further _ _ _ so_far.grows step.grows;
    }
