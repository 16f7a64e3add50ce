use Rattle.std.proofs.Common.{◌≡◌, ◌<◌, ◌++◌, drop, map, length}
use Rattle.cd_model.specs.Formula.{IsGraph}
use Rattle.cd_program.specs.Expr.{branches_of}
use Rattle.cd_program.specs.PlainExpr.{plain_branch, plain_branches}
use Rattle.cd_names.specs.ProgramFaults.{patterns}
use Rattle.cd_empty.specs.Growth.{Grows}
use Rattle.cd_empty.specs.Seen.{graph_of}
use Rattle.cd_check.specs.Inner.Divided.{AreSited, coming_pattern}
use Rattle.cd_check.specs.Inner.Ready.{scope_of}
use Rattle.cd_check.proofs.Divided.{ComeFurther}
use Rattle.cd_check.proofs.sites.divide.Given as goal

-- what comes to the others leads on to what comes to all
abbrev pub invariant-loop-branch : goal.invariant-loop-branch
invariant-loop-branch l = IsGraph (graph_of l.world) × Grows l.fn.world l.world × (l.rest.0 < length (graph_of l.world))
    × AreSited (graph_of l.world) (scope_of l.base) l.base.sites.now
    × ComeFurther (graph_of l.world) (scope_of l.base) l.matched l.comings.items l.rest
    × (map coming_pattern l.comings.items ++ patterns (branches_of (map plain_branch (drop l.branch-index l.branch-items)))
    ≡ patterns (plain_branches l.branches))
