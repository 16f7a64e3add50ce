use Rattle.std.proofs.Common.{ap, subst, ◌∙◌}
use Rattle.std.proofs.lemmas.Result.{IfOk-weaker}
use Rattle.cd_tasks.specs.Inner.Groups.{IsXmlGroupAt}
use Rattle.cd_tasks.proofs.GroupCases.{are_xml_cases, xml_group_left}
use Rattle.cd_tasks.proofs.task.XmlTask.cases_together.Goals as goal

pub returns-clause-cases : goal.returns-clause-cases
returns-clause-cases c =
    let left = c.as_slice.ensures.value ∙ ap (λ all. all.items) c.deref.ensures in
    IfOk-weaker c.cases_of.result _ _ (λ cases made. are_xml_cases c.args.self.now c.args.place c.in_ok-group.group cases.items made
    (subst (λ left. IsXmlGroupAt left c.args.place c.in_ok-group.group) left c.in_ok-group.ensures)) c.cases_of.ensures

pub returns-clause-taken : goal.returns-clause-taken
returns-clause-taken c =
    let left = c.as_slice.ensures.value ∙ ap (λ all. all.items) c.deref.ensures in
    IfOk-weaker c.cases_of.result _ _ (λ cases made. xml_group_left c.args.self.now c.args.place c.in_ok-group.group cases.items made
    (subst (λ left. IsXmlGroupAt left c.args.place c.in_ok-group.group) left c.in_ok-group.ensures)) c.cases_of.ensures
