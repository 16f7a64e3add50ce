use Rattle.std.proofs.Common.{◌≡◌, ◌++◌, drop}
use Rattle.cd_tasks.specs.Inner.Groups.{agrees, divided, plain_side}
use Rattle.cd_tasks.proofs.group.divided.Given as goal

-- those so far, with what is left, are all that agree and all others
abbrev pub invariant-loop-index : goal.invariant-loop-index
invariant-loop-index l = (
  l.group.items ++ (divided (agrees (plain_side l.differs) l.member) (drop l.index l.left)).0,
  l.rest.items ++ (divided (agrees (plain_side l.differs) l.member) (drop l.index l.left)).1,
)
    ≡ divided (agrees (plain_side l.fn.differs) l.fn.member) l.fn.left
