use Rattle.std.proofs.Common.{◌≡◌, ◌++◌, drop, map}
use Rattle.cd_forms.specs.Inner.Asking.{asking}
use Rattle.cd_forms.proofs.members.questions_of.Given as goal

-- the questions so far, and those of the nodes that are left, are all
abbrev pub invariant-loop-member : goal.invariant-loop-member
invariant-loop-member l = l.questions.items ++ map asking (drop l.member-index l.members)
    ≡ map asking l.members
