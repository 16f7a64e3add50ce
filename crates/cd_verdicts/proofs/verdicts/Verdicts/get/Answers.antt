use Rattle.std.proofs.Common.{List, Option, MatchOption, ◌∙◌, sym, subst}
use Rattle.cd_sets.specs.declared.question.Question.{Question}
use Rattle.cd_rules.specs.Machine.{NotIn}
use Rattle.cd_verdicts.specs.declared.verdict.Verdict.{Verdict}
use Rattle.cd_verdicts.specs.Verdicts.{IsKept}
use Rattle.cd_verdicts.proofs.VerdictsFound.{asked, look_up_finds}
use Rattle.cd_verdicts.proofs.verdicts.Verdicts.get.Goals as goal

pub returns : goal.returns
returns c =
    let all = c.self.inside.verdicts.entries in
    let question = c.args.question.now in
    subst (λ (all : List (Question × Verdict)).
    MatchOption c.copied.result (NotIn (asked all) question) (λ verdict. IsKept all question verdict)) c.self.view_is
    (subst (λ (found : Option Verdict). MatchOption found (NotIn (asked all) question) (λ verdict. IsKept all question verdict))
    (sym (c.copied.ensures ∙ c.get.ensures.value)) (look_up_finds all question))
