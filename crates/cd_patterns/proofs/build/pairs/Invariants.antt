use Rattle.std.proofs.Common.{◌≡◌, [], ◌∷◌, ◌++◌, map, length}
use Rattle.cd_matching.specs.PlainPattern.{plain}
use Rattle.cd_patterns.specs.Inner.Types.{paired}
use Rattle.cd_patterns.proofs.build.pairs.Given as goal

abbrev pub decreases-loop-first : goal.decreases-loop-first
decreases-loop-first l = length l.all.items

-- the others before the last are what all are
abbrev pub invariant-loop-first : goal.invariant-loop-first
invariant-loop-first l =
    paired (map plain l.all.items ++ plain l.last ∷ []) ≡ paired (map plain l.fn.all.items)
