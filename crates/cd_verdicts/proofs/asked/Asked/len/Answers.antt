use Rattle.std.proofs.Common.{List, subst}
use Rattle.std.specs.List.{IsDistinct}
use Rattle.cd_sets.specs.Asking.{same_question}
use Rattle.cd_sets.specs.declared.question.Question.{Question}
use Rattle.cd_verdicts.proofs.Numbering.{stands_once}
use Rattle.cd_verdicts.proofs.asked.Asked.len.Goals as goal

-- no two questions of the set are equal
pub returns-clause-once : goal.returns-clause-once
returns-clause-once c =
    stands_once c.args.self.now (subst (λ (asked : List Question). IsDistinct same_question asked) c.self.view_is c.len.ensures.unique)
