use Rattle.std.proofs.Common.{◌≡◌, ◌-◌, ◌^◌, map, take, length}
use Rattle.cd_model.specs.AllOf.{AllOf}
use Rattle.cd_operators.specs.Inner.Combined.{IsPiece, interval}
use Rattle.cd_operators.proofs.combined.pieces.Given as goal

-- the bounds so far are those of the first intervals
abbrev pub invariant-loop-bounds : goal.invariant-loop-bounds
invariant-loop-bounds l = record {
  intervals : map interval l.pieces.items ≡ take (length l.pieces.items) l.set;
  pieces : AllOf IsPiece l.pieces.items;
}

abbrev pub decreases-loop-bounds : goal.decreases-loop-bounds
decreases-loop-bounds l = 2 ^ 64 - length l.pieces.items
