use Rattle.std.proofs.Common.{◌≡◌, ◌++◌, drop}
use Rattle.cd_explored.specs.Inner.Givers.{givers_of}
use Rattle.cd_explored.specs.Inner.Reached.{rows_of}
use Rattle.cd_explored.proofs.givers.givers.Given as goal

-- those so far, and those at the places that are left, are those of all
abbrev pub invariant-loop-number : goal.invariant-loop-number
invariant-loop-number l = l.all.items ++ givers_of l.variable (rows_of l.steps) (drop l.number-index l.numbers)
    ≡ givers_of l.variable (rows_of l.steps) l.numbers
