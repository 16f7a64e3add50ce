use Rattle.std.proofs.Common.{◌∙◌}
use Rattle.std.proofs.lemmas.Result.{IfOk-weaker}
use Rattle.cd_tasks.specs.Inner.Groups.{arrow_case, plain_side, sides_to}
use Rattle.cd_tasks.proofs.CasesMade.{made_in_order}
use Rattle.cd_tasks.proofs.task.ArrowTask.cases_of.Goals as goal

pub returns : goal.returns
returns c = IfOk-weaker c.in_order.result _ _
    (λ cases made. made ∙ made_in_order _ _ (arrow_case c.args.self.now c.args.group.now)
    c.in_ok-outside.ensures c.in_ok-results.ensures (sides_to (plain_side c.args.group.now.differs))) c.in_order.ensures
