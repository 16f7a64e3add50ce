use Rattle.std.proofs.Common.{◌∙◌}
use Rattle.std.proofs.lemmas.Result.{IfOk-weaker}
use Rattle.cd_tasks.specs.Inner.Groups.{xml_case, plain_xml_side, xml_sides_to}
use Rattle.cd_tasks.proofs.CasesMade.{made_in_xml_order}
use Rattle.cd_tasks.proofs.task.XmlTask.cases_of.Goals as goal

pub returns : goal.returns
returns c = IfOk-weaker c.xml_in_order.result _ _
    (λ cases made. made ∙ made_in_xml_order _ _ _ (xml_case c.args.self.now c.args.group.now)
    c.in_ok-to_tag.ensures c.in_ok-to_attributes.ensures c.in_ok-to_content.ensures (xml_sides_to (plain_xml_side c.args.group.now.differs))) c.xml_in_order.ensures
