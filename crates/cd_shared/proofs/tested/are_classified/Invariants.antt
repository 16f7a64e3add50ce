use Rattle.std.proofs.Common.{ℕ, ◌<◌}
use Rattle.cd_shared.specs.Equation.{plain_equations}
use Rattle.cd_shared.specs.Inner.Found.{IsClassified}
use Rattle.cd_shared.proofs.tested.are_classified.Given as goal

-- those that were gone over are classified
abbrev pub invariant-loop-number : goal.invariant-loop-number
invariant-loop-number l = (k : ℕ) → k < l.number
    → IsClassified l.classes.first l.classes.ids.items l.leaders
    (plain_equations l.equations) k
