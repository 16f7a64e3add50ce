use Rattle.std.proofs.Common.{◌≡◌, ◌++◌, drop, map}
use Rattle.cd_model.specs.AllOf.{AllOf}
use Rattle.cd_model.specs.Formula.{IsGraph}
use Rattle.cd_empty.specs.Growth.{Grows}
use Rattle.cd_empty.specs.Seen.{graph_of}
use Rattle.cd_typing.specs.Typed.{scope_of}
use Rattle.cd_placed.specs.Patterns.{all_patterns}
use Rattle.cd_resolved.specs.Resolved.{HasKernel, program_of, pattern_of}
use Rattle.cd_check.specs.Inner.Divided.{AreSited, sited_pattern}
use Rattle.cd_check.proofs.sites.sites_of.Given as goal

-- the patterns so far have their sites, in a graph in which all still have their kernels
abbrev pub invariant-loop-one : goal.invariant-loop-one
invariant-loop-one l = IsGraph (graph_of l.world) × Grows l.fn.world l.world
    × AllOf (HasKernel (scope_of (program_of l.program)) (graph_of l.world)) l.one-items
    × AreSited (graph_of l.world) (scope_of (program_of l.program)) l.sites.items
    × (map sited_pattern l.sites.items ++ map pattern_of (drop l.one-index l.one-items) ≡ all_patterns (program_of l.program))
