use Rattle.std.proofs.Common.{map, take}
use Rattle.cd_operators.specs.Inner.Combined.{AreOfTwo, interval}
use Rattle.cd_operators.proofs.combined.of_pieces.Given as goal

-- the results for the first of the second bounds
abbrev pub invariant-loop-bounds : goal.invariant-loop-bounds
invariant-loop-bounds l = AreOfTwo l.operation (map interval l.first)
    (map interval (take l.bounds-index l.second)) l.all
