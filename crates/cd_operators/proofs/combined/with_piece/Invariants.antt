use Rattle.std.proofs.Common.{◌∷◌, [], map, take}
use Rattle.cd_operators.specs.Inner.Combined.{AreOfTwo, interval}
use Rattle.cd_operators.proofs.combined.with_piece.Given as goal

-- the results for the first of these bounds
abbrev pub invariant-loop-piece : goal.invariant-loop-piece
invariant-loop-piece l = AreOfTwo l.operation (map interval (take l.piece-index l.first))
    (interval l.bounds ∷ []) l.all
