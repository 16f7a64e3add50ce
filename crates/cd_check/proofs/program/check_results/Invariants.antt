use Rattle.std.proofs.Common.{◌≡◌, ◌++◌, drop}
use Rattle.cd_model.specs.BuiltIns.{built_ins}
use Rattle.cd_model.specs.Formula.{Graph}
use Rattle.cd_empty.specs.Growth.{Grows}
use Rattle.cd_empty.specs.Seen.{graph_of}
use Rattle.cd_check.specs.Inner.Programs.{ResultsAreData}
use Rattle.cd_check.specs.Inner.Promises.{ArePairs}
use Rattle.cd_check.proofs.program.check_results.Given as goal

-- what is asked of all is asked of the rest, and where it is so of the rest, it is of all
abbrev pub invariant-loop-arrow : goal.invariant-loop-arrow
invariant-loop-arrow l = (graph_of l.world ≡ graph_of l.fn.world)
    × ((more : Graph) × (graph_of l.fn.world ≡ built_ins ++ more))
    × ArePairs (graph_of l.fn.world) (drop l.arrow-index l.arrows)
    × (ResultsAreData (graph_of l.fn.world) (drop l.arrow-index l.arrows) → ResultsAreData (graph_of l.fn.world) l.arrows)
    × Grows l.fn.world l.world
