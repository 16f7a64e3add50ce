use Rattle.cd_rules.specs.Groups.{AtSecond, part, other_sides}
use Rattle.cd_tasks.proofs.GroupsTaken.{group_alone}
use Rattle.cd_tasks.proofs.group.alone.Goals as goal

pub returns-clause-group : goal.returns-clause-group
returns-clause-group c = group_alone part (other_sides AtSecond) c.args.left.now c.in_ok-members.members.items c.in_ok-rest.rest.value.items c.args.place _ c.requires
    c.in_ok-members.ensures.items c.in_ok-rest.ensures
