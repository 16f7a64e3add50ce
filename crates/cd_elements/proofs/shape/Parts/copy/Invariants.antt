use Rattle.std.proofs.Common.{◌≡◌, take}
use Rattle.cd_elements.proofs.shape.Parts.copy.Given as goal

-- the fields so far are copied
abbrev pub invariant-loop-label : goal.invariant-loop-label
invariant-loop-label l = l.items.items ≡ take l.label-index l.label-items
