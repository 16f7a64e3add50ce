use Rattle.std.proofs.Common.{ℕ, ◌<◌}
use Rattle.std.specs.List.{slice_get}
use Rattle.cd_matching.specs.PlainKernel.{plain_nodes}
use Rattle.cd_merged.specs.Inner.Classes.{FallsIn}
use Rattle.cd_merged.proofs.falling.are_falling.Given as goal

-- the nodes that were gone over lead to earlier ones
abbrev pub invariant-loop-number : goal.invariant-loop-number
invariant-loop-number l =
    (k : ℕ) → k < l.number → FallsIn k (slice_get (plain_nodes l.nodes) k)
