use Rattle.std.proofs.Common.{◌≡◌, ◌++◌, drop}
use Rattle.cd_explored.specs.Inner.Givers.{givers_in}
use Rattle.cd_explored.proofs.givers.add_givers.Given as goal

-- those so far, and those of the steps that are left, are those of all
abbrev pub invariant-loop-step : goal.invariant-loop-step
invariant-loop-step l = l.all.items ++ givers_in l.variable l.number (drop l.step-index l.row)
    ≡ l.fn.all.items ++ givers_in l.variable l.number l.row
