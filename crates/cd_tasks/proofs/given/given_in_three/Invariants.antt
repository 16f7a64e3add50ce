use Rattle.std.proofs.Common.{◌≡◌, ◌++◌, drop}
use Rattle.cd_tasks.specs.Assignments.{given_in_three}
use Rattle.cd_tasks.proofs.given.given_in_three.Given as goal

-- the sides so far, with what is left of the word and the members, are all
abbrev pub invariant-loop-index : goal.invariant-loop-index
invariant-loop-index l = (
  l.first.items ++ (given_in_three (drop l.index l.word) (drop l.index l.members)).0,
  l.middle.items ++ (given_in_three (drop l.index l.word) (drop l.index l.members)).1,
  l.last.items ++ (given_in_three (drop l.index l.word) (drop l.index l.members)).2,
)
    ≡ given_in_three l.fn.word l.fn.members
