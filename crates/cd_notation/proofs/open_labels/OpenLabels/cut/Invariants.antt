use Rattle.std.proofs.Common.{◌≡◌, take, length}
use Rattle.cd_notation.specs.OpenOf.{labels}
use Rattle.cd_notation.proofs.open_labels.OpenLabels.cut.Given as goal

abbrev pub invariant-loop-self : goal.invariant-loop-self
invariant-loop-self l = take l.from (labels l.self) ≡ take l.from (labels l.initial.self)

abbrev pub decreases-loop-self : goal.decreases-loop-self
decreases-loop-self l = length (labels l.self)
