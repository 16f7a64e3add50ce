use Rattle.std.proofs.Common.{ap, ◌∙◌}
use Rattle.cd_tasks.specs.Inner.Groups.{plain_side}
use Rattle.cd_tasks.proofs.GroupsTaken.{group_together}
use Rattle.cd_tasks.proofs.group.together.Goals as goal

-- those that agree with the member are its group
pub returns : goal.returns
returns c = group_together (plain_side c.args.differs) c.args.left.now c.in_ok-members.members.items _ c.args.place _ c.requires
    (ap (λ rest. (c.in_ok-members.members.items, rest.items)) c.in_ok-rest.ensures.ok ∙ c.in_ok-members.ensures)
