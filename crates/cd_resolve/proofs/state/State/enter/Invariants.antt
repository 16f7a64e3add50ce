use Rattle.std.proofs.Common.{◌≡◌, ◌++◌}
use Rattle.cd_shared.specs.Equation.{plain_equations}
use Rattle.cd_resolve.specs.Inner.Walk.{unread}
use Rattle.cd_resolve.proofs.state.State.enter.Given as goal

-- so many of the names are put
abbrev pub invariant-loop-count : goal.invariant-loop-count
invariant-loop-count l = plain_equations l.self.equations.items
    ≡ plain_equations l.fn.self.equations.items ++ unread l._count
