use Rattle.std.proofs.Common.{length, map, sym, subst}
use Rattle.cd_empty.specs.Seen.{graph_of}
use Rattle.cd_products.proofs.WorldsAfter.{and_after}
use Rattle.cd_records.specs.Inner.Leaving.{AddsStep, ChoiceAsks}
use Rattle.cd_records.specs.Inner.Plain.{plain_choice}
use Rattle.cd_records.proofs.LoopsOfChoices.{steps_all, steps_more}
use Rattle.cd_records.proofs.Zips.{mapped_at}
use Rattle.cd_records.proofs.splitting.steps.Goals as goal

pub add_steps-requires-clause-choice : goal.add_steps-requires-clause-choice
add_steps-requires-clause-choice c =
    subst (λ graph. ChoiceAsks (length graph) (plain_choice c.choice-item.result))
    (sym c.loop-choice.invariant.after.graph)
    (mapped_at plain_choice (ChoiceAsks (length (graph_of c.args.world.now))) c.args.choices.now
    c.loop-choice.choice-index c.choice-item.result c.requires.choices c.loop-choice-test.true
    c.choice-item.is)

pub loop-choice-preserved : goal.loop-choice-preserved
loop-choice-preserved c =
    let so_far = c.loop-choice.invariant in
    let made = c.in_ok-add_steps.ensures in
    let old = map plain_choice c.loop-choice.all.items in
    let new = map plain_choice c.add_steps.new.all.items in
    record {
      after = and_after _ _ _ so_far.after made.after;
      steps = steps_more (graph_of c.args.world.now) c.args.question.now c.args.choices.now
          c.loop-choice.choice-index c.choice-item.result c.loop-choice-test.true c.choice-item.is
          old new
          (subst (λ graph. AddsStep graph c.args.question.now (plain_choice c.choice-item.result)
          old new) so_far.after.graph made.step)
          so_far.steps;
    }

pub returns-clause-steps : goal.returns-clause-steps
returns-clause-steps c = steps_all (graph_of c.args.world.now) c.args.question.now
    c.args.choices.now c.loop-choice.choice-index c.loop-choice-test.false
    (map plain_choice c.loop-choice.all.items) c.loop-choice.invariant.steps
