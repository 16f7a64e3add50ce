use Rattle.std.proofs.Common.{subst}
use Rattle.cd_rules.specs.Tasks.{questions_of}
use Rattle.cd_tasks.specs.PlainTask.{plain_task}
use Rattle.cd_empty.specs.Inner.Looking.{AreParts}
use Rattle.cd_empty.proofs.CasesLookedAt.{unknown_at}
use Rattle.cd_empty.proofs.decider.Decider.unknown_of.Goals as goal

pub returns-in-Unknown : goal.returns-in-Unknown
returns-in-Unknown c = unknown_at c.args.self.now c.args.cases.now c.loop-case.case-index c.case-item.result c.case-item.result
    c.in-Unknown.question c.loop-case-test.true c.case-item.is
    (subst (AreParts c.args.self.now (questions_of (plain_task c.case-item.result))) c.in-Unknown.is c.in_ok-question.ensures)
