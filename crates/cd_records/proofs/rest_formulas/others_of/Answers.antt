use Rattle.std.proofs.Common.{length, map}
use Rattle.cd_rules.specs.Family.{AsksNodes}
use Rattle.cd_graph.specs.Nodes.{nodes}
use Rattle.cd_graph.specs.PlainFormula.{plain}
use Rattle.cd_records.specs.Inner.Plain.{plain_questions, plain_said}
use Rattle.cd_records.specs.Inner.Standing.{HoldsOther}
use Rattle.cd_records.proofs.FormulasJoined.{others_stay}
use Rattle.cd_records.proofs.NodesStand.{adds_then}
use Rattle.cd_records.proofs.Zips.{mapped_at, zip_more}
use Rattle.cd_records.proofs.rest_formulas.others_of.Goals as goal

pub other_of-requires-clause-asks : goal.other_of-requires-clause-asks
other_of-requires-clause-asks c = mapped_at (λ question. question.now)
    (AsksNodes (length (nodes c.args.graph.now))) c.args.left.now c.loop-question.question-index
    c.question-item.result c.requires.asks c.loop-question-test.true c.question-item.is

pub loop-question-preserved : goal.loop-question-preserved
loop-question-preserved c =
    let graph = nodes c.args.graph.now in
    let old = map plain c.loop-question.batch.items in
    let new = map plain c.other_of.new.batch.items in
    let entries = map plain_said c.args.said.now in
    let made = c.in_ok-other_of.ensures in
    let so_far = c.loop-question.invariant in
    record {
      holding = zip_more (λ question. question.now) plain (HoldsOther graph new entries)
          c.args.left.now c.loop-question.question-index c.question-item.result
          c.loop-question-test.true c.question-item.is c.loop-question.others.items
          c.push.new.self.items c.in_ok-other_of.field-0 c.in_ok-push.ensures.items
          (others_stay graph old new made.adds entries _ _ so_far.holding) made.holding;
      adds = adds_then graph _ old new so_far.adds made.adds;
    }
