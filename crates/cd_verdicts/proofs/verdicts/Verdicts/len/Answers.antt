use Rattle.std.proofs.Common.{List, subst}
use Rattle.cd_sets.specs.declared.question.Question.{Question}
use Rattle.cd_rules.specs.Right.{Differ}
use Rattle.cd_verdicts.specs.declared.verdict.Verdict.{Verdict}
use Rattle.cd_verdicts.proofs.QuestionsDiffer.{distinct_differ}
use Rattle.cd_verdicts.proofs.VerdictsFound.{asked, one_verdict}
use Rattle.cd_verdicts.proofs.verdicts.Verdicts.len.Goals as goal

-- no two questions are equal
pub returns-clause-once : goal.returns-clause-once
returns-clause-once c = subst (λ (all : List (Question × Verdict)). Differ (asked all)) c.self.view_is
    (distinct_differ (asked c.self.inside.verdicts.entries) c.len.ensures.unique)

pub returns-clause-verdicts : goal.returns-clause-verdicts
returns-clause-verdicts c = one_verdict c.args.self.now (subst (λ (all : List (Question × Verdict)). Differ (asked all)) c.self.view_is
    (distinct_differ (asked c.self.inside.verdicts.entries) c.len.ensures.unique))
