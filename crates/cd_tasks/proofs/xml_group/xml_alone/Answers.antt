use Rattle.cd_rules.specs.Groups.{AtContent, xml_part, other_xml_sides}
use Rattle.cd_tasks.proofs.GroupsTaken.{group_alone}
use Rattle.cd_tasks.proofs.xml_group.xml_alone.Goals as goal

pub returns-clause-group : goal.returns-clause-group
returns-clause-group c = group_alone xml_part (other_xml_sides AtContent) c.args.left.now c.in_ok-members.members.items c.in_ok-rest.rest.value.items c.args.place _ c.requires
    c.in_ok-members.ensures.items c.in_ok-rest.ensures
