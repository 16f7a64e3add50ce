use Rattle.std.proofs.Common.{◌≡◌, ◌++◌, drop}
use Rattle.cd_tasks.specs.Assignments.{given}
use Rattle.cd_tasks.proofs.given.given.Given as goal

-- the sides so far, with what is left of the word and the members, are all
abbrev pub invariant-loop-index : goal.invariant-loop-index
invariant-loop-index l = (
  l.one.items ++ (given (drop l.index l.word) (drop l.index l.members)).0,
  l.other.items ++ (given (drop l.index l.word) (drop l.index l.members)).1,
)
    ≡ given l.fn.word l.fn.members
