use Rattle.std.proofs.Common.{◌≡◌, drop}
use Rattle.cd_model.specs.AllOf.{AllOf}
use Rattle.cd_empty.specs.Growth.{Grows}
use Rattle.cd_empty.specs.Seen.{graph_of}
use Rattle.cd_check.specs.Inner.Programs.{HasArrows, MainGives}
use Rattle.cd_check.proofs.program.check_main.Given as goal

-- what is asked of all is asked of the rest, and where it is so of the rest, it is of all
abbrev pub invariant-loop-one : goal.invariant-loop-one
invariant-loop-one l = (graph_of l.world ≡ graph_of l.fn.world)
    × AllOf (HasArrows (graph_of l.fn.world)) (drop l.one-index l.functions)
    × (AllOf (MainGives (graph_of l.fn.world)) (drop l.one-index l.functions) → AllOf (MainGives (graph_of l.fn.world)) l.functions)
    × Grows l.fn.world l.world
