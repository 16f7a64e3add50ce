use Rattle.std.proofs.Common.{◌≡◌, ◌+◌, drop}
use Rattle.cd_sets.specs.IdSet.{place_of}
use Rattle.cd_sets.proofs.id_set.place.Given as goal

-- all that was passed comes before the number
abbrev pub invariant-loop-index : goal.invariant-loop-index
invariant-loop-index l = place_of l.ids l.id ≡ l.index + place_of (drop l.index l.ids) l.id
