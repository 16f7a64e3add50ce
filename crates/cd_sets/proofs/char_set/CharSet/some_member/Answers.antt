use Rattle.std.proofs.Common.{◌≡◌, Some, slice_get, arith}
use Rattle.std.proofs.lemmas.Grind.{common_steps}
use Rattle.std.proofs.lemmas.Option.{gets}
use Rattle.cd_sets.proofs.Numbering.{piece_within}
use Rattle.cd_sets.proofs.char_set.CharSet.some_member.Goals as goal

-- the interval that was found
found : (c : goal.In_ok-interval) → slice_get c.self.inside.numbers.items 0 ≡ Some c.in_ok-interval.interval.now
found c = let look = c.in_ok-interval.ensures.value in let item = c.in_ok-interval.ensures.item in grind (arith, common_steps, gets)

pub bounds-low-requires : goal.bounds-low-requires
bounds-low-requires c = piece_within c.self.inside.numbers.items 0 c.in_ok-interval.interval.now c.self.invariant (found c)
