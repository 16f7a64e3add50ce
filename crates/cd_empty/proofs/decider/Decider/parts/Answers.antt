use Rattle.std.proofs.Common.{ℕ, suc, List, add-one, take, sym, subst}
use Rattle.cd_elements.specs.declared.shape.ElementId.{ElementId}
use Rattle.cd_empty.specs.Inner.Doing.{IsUnknown}
use Rattle.cd_empty.specs.Inner.Looking.{HaveElements}
use Rattle.cd_empty.proofs.LooksAtQuestions.{one_subsumed, one_there, have_one_more}
use Rattle.cd_empty.proofs.decider.Decider.parts.Goals as goal

pub returns-in-Empty : goal.returns-in-Empty
returns-in-Empty c = one_subsumed c.args.self.now c.args.questions.now c.loop-question.question-index
    c.question-item.result c.question-item.result c.loop-question-test.true c.question-item.is c.in-Empty.ensures

pub returns-in-Unknown : goal.returns-in-Unknown
returns-in-Unknown c = (
  one_there c.args.questions.now c.loop-question.question-index c.question-item.result c.question-item.result
      c.in_ok-copy-in-Unknown.field-0 c.loop-question-test.true c.question-item.is c.in_ok-copy-in-Unknown.ensures,
  subst (IsUnknown c.args.self.now) (sym c.in_ok-copy-in-Unknown.ensures) c.in-Unknown.ensures,
)

pub loop-question-preserved : goal.loop-question-preserved
loop-question-preserved c =
    let place = c.loop-question.question-index in
    let have = have_one_more c.args.self.now c.loop-question.ids.items c.args.questions.now place c.in-Has.id c.question-item.result
    c.question-item.result c.loop-question-test.true c.question-item.is c.loop-question.invariant c.in-Has.ensures in
    subst (λ (next : ℕ). HaveElements c.args.self.now c.push.new.self.items (take next c.args.questions.now)) (sym (add-one place))
    (subst (λ (ids : List ElementId). HaveElements c.args.self.now ids (take (suc place) c.args.questions.now))
    (sym c.in_ok-push-in-Has.ensures.ok) have)
