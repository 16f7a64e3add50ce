use Rattle.std.proofs.Common.{◌≡◌, ◌++◌, drop}
use Rattle.cd_sets.specs.Counting.{chosen_of}
use Rattle.cd_sets.proofs.id_set.IdSet.chosen.Given as goal

-- what was chosen so far, and what is chosen of the rest
abbrev pub invariant-loop-index : goal.invariant-loop-index
invariant-loop-index l = l.ids.items ++ chosen_of (drop l.index l.self) (drop l.index l.digits) ≡ chosen_of l.self l.digits
