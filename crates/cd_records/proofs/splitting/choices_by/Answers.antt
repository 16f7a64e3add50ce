use Rattle.std.proofs.Common.{◌∷◌, [], length, map, ap, sym, subst, ◌∙◌}
use Rattle.cd_rules.specs.Family.{AsksNodes}
use Rattle.cd_empty.specs.Seen.{graph_of}
use Rattle.cd_products.proofs.WorldsAfter.{and_after}
use Rattle.cd_records.specs.Inner.Leaving.{AreSteps}
use Rattle.cd_records.specs.Inner.Plain.{plain_choice}
use Rattle.cd_records.proofs.AskNodes.{steps_ask}
use Rattle.cd_records.proofs.LoopsOfChoices.{choices_all, choices_more}
use Rattle.cd_records.proofs.Zips.{mapped_at}
use Rattle.cd_records.proofs.splitting.choices_by.Goals as goal

pub steps-requires-clause-question : goal.steps-requires-clause-question
steps-requires-clause-question c =
    subst (λ graph. AsksNodes (length graph) c.question-item.result.now)
    (sym c.loop-question.invariant.after.graph)
    (mapped_at (λ question. question.now) (AsksNodes (length (graph_of c.args.world.now)))
    c.args.some.now c.loop-question.question-index c.question-item.result c.requires.some
    c.loop-question-test.true c.question-item.is)

pub loop-question-preserved : goal.loop-question-preserved
loop-question-preserved c =
    let graph = graph_of c.args.world.now in
    let so_far = c.loop-question.invariant in
    let made = c.in_ok-choices-2.ensures in
    let question = c.question-item.result in
    let old = map plain_choice c.loop-question.choices.items in
    let new = map plain_choice c.in_ok-choices-2.choices.items in
    let steps = subst (λ choices. AreSteps graph question.now (map plain_choice choices) new)
    c.as_slice.ensures.value
    (subst (λ graph. AreSteps graph question.now (map plain_choice c.as_slice.result.now) new)
    so_far.after.graph made.steps) in
    record {
      after = and_after _ _ _ so_far.after made.after;
      asks = steps_ask graph question.now old new
          (mapped_at (λ question. question.now) (AsksNodes (length graph)) c.args.some.now
          c.loop-question.question-index question c.requires.some c.loop-question-test.true
          c.question-item.is) so_far.asks steps;
      choices = choices_more graph c.args.some.now (plain_choice c.args.first ∷ [])
          c.loop-question.question-index question c.loop-question-test.true c.question-item.is old
          new steps so_far.choices;
    }

pub returns-clause-choices : goal.returns-clause-choices
returns-clause-choices c = choices_all (graph_of c.args.world.now) c.args.some.now
    (plain_choice c.args.first ∷ []) c.loop-question.question-index c.loop-question-test.false
    (map plain_choice c.loop-question.choices.items) c.loop-question.invariant.choices
