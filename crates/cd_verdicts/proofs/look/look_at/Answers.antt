use Rattle.std.proofs.Common.{◌++◌, sym, subst, ◌∙◌}
use Rattle.cd_verdicts.specs.Verdicts.{IsKept, family}
use Rattle.cd_verdicts.proofs.QuestionsSeen.{empty_is_known, listed_is_known, not_listed, contradiction_is_subsumed}
use Rattle.cd_verdicts.proofs.look.look_at.Goals as goal

-- a question without elements is settled, or in the list
pub returns-in-Some-Empty : goal.returns-in-Some-Empty
returns-in-Some-Empty c = empty_is_known c.args.verdicts.now c.args.assumed.now c.args.question.now
    (subst (IsKept c.args.verdicts.now c.args.question.now) c.in-Some-Empty.field-0-is c.in-Some-Empty.ensures)

pub returns-in-Some : goal.returns-in-Some
returns-in-Some c =
    listed_is_known c.args.verdicts.now c.args.assumed.now c.in-Some.field-0.0 c.args.question.now c.in-Some.ensures

pub returns-in-None-find : goal.returns-in-None-find
returns-in-None-find c = (c.in-None.ensures, not_listed c.args.assumed.now c.args.question.now c.in-None-find.ensures)

-- so is one that contradicts itself
pub returns-then-contradicts_itself : goal.returns-then-contradicts_itself
returns-then-contradicts_itself c = contradiction_is_subsumed (family c.args.verdicts.now ++ c.args.assumed.now) c.args.question.now
    (sym c.contradicts_itself.ensures ∙ c.if-contradicts_itself.true)
