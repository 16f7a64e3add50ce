use Rattle.cd_resolved.proofs.NumbersFound.{AreSoFar}
use Rattle.cd_resolved.proofs.numbers.numbers_of.Given as goal

-- the places so far have their numbers
abbrev pub invariant-loop-number : goal.invariant-loop-number
invariant-loop-number l = AreSoFar l.places l.number l.slots
