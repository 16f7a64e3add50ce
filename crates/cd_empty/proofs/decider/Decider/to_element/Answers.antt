use Rattle.std.proofs.Common.{◌∙◌, arith}
use Rattle.cd_graph.specs.Nodes.{nodes}
use Rattle.cd_empty.specs.Kept.{table, kept}
use Rattle.cd_empty.proofs.ElementsKept.{keeps_then}
use Rattle.cd_empty.proofs.ProgressOfRuns.{stopped_at_question}
use Rattle.cd_empty.proofs.RunningDeciders.{runs_then}
use Rattle.cd_verdicts.proofs.WitnessesOfVerdicts.{few_witnesses}
use Rattle.cd_empty.proofs.decider.Decider.to_element.Goals as goal

-- there are no more elements than verdicts
pub returns-in_err-to_question-clause-few : goal.returns-in_err-to_question-clause-few
returns-in_err-to_question-clause-few c = omega (arith, few_witnesses (table c.args.self.now) (kept c.args.self.now))

pub returns-in-Found-clause-few : goal.returns-in-Found-clause-few
returns-in-Found-clause-few c = omega (arith, few_witnesses (table c.args.self.now) (kept c.args.self.now))

pub returns-in-Done-clause-few : goal.returns-in-Done-clause-few
returns-in-Done-clause-few c = omega (arith, few_witnesses (table c.args.self.now) (kept c.args.self.now))

pub returns-in-Found-clause-ran : goal.returns-in-Found-clause-ran
returns-in-Found-clause-ran c = runs_then (nodes c.args.graph.now) c.args.self.now c.questions.self c.to_question.new.self
    c.args.frames.now c.questions.frames c.to_question.new.frames c.questions.invariant.ran c.in_ok-to_question.ensures.ran

pub returns-in-Done-clause-ran : goal.returns-in-Done-clause-ran
returns-in-Done-clause-ran c = runs_then (nodes c.args.graph.now) c.args.self.now c.questions.self c.to_question.new.self
    c.args.frames.now c.questions.frames c.to_question.new.frames c.questions.invariant.ran c.in_ok-to_question.ensures.ran

-- a question was opened, so the elements are the same
pub questions-preserved : goal.questions-preserved
questions-preserved c =
    let so_far = c.questions.invariant in
    let call = c.in_ok-to_question.ensures in record {
      ran = runs_then (nodes c.args.graph.now) c.args.self.now c.questions.self c.to_question.new.self
          c.args.frames.now c.questions.frames c.to_question.new.frames so_far.ran call.ran;
      keeps = keeps_then c.args.self.now c.questions.self c.to_question.new.self so_far.keeps c.to_question.ensures.keeps;
      found = (stopped_at_question c.questions.self c.to_question.new.self c.questions.frames c.to_question.new.frames
          c.in_ok-to_question.field-0 c.in_default.not-Found c.in_default.not-Done call.stopped).0 ∙ so_far.found;
    }
