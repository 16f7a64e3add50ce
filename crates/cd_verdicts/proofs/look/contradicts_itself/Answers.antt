use Rattle.std.proofs.Common.{◌≡◌, length, arith}
use Rattle.cd_verdicts.proofs.QuestionsSeen.{none_refused}
use Rattle.cd_verdicts.proofs.look.contradicts_itself.Goals as goal

pub returns-then-len-eq0 : goal.returns-then-len-eq0
returns-then-len-eq0 c =
    let none : length c.args.question.now.neg ≡ 0 = omega arith in
    none_refused c.args.question.now.pos c.args.question.now.neg none
