use Rattle.std.proofs.Common.{◌≡◌, ◌-◌, ◌^◌, map, length}
use Rattle.cd_matching.specs.PlainKernel.{plain_kernel}
use Rattle.cd_empty.specs.Growth.{Grows}
use Rattle.cd_empty.specs.Seen.{graph_of}
use Rattle.cd_filter.specs.Accepting.{place_of}
use Rattle.cd_filter.specs.Table.{first_place}
use Rattle.cd_explored.specs.Inner.Exploring.{IsExploring}
use Rattle.cd_explored.specs.Inner.PlainSteps.{plain_places}
use Rattle.cd_explored.proofs.explore.explore.Given as goal

-- the first places are settled, and the graph is the same
abbrev pub invariant-loop-place : goal.invariant-loop-place
invariant-loop-place l = record {
  explores : IsExploring (graph_of l.fn.world) (plain_kernel l.base.kernel.now) l.base.first
      (first_place (plain_kernel l.base.kernel.now) l.fn.matched
      (place_of (plain_kernel l.base.kernel.now).nodes l.base.first))
      (plain_places l.places) (map (λ steps. steps.items) l.steps.items);
  graph : graph_of l.world ≡ graph_of l.fn.world;
  grows : Grows l.fn.world l.world;
}

-- no list has as many
abbrev pub decreases-loop-place : goal.decreases-loop-place
decreases-loop-place l = 2 ^ 64 - length l.steps.items
