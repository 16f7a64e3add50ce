use Rattle.std.proofs.Common.{◌≡◌, ◌<◌, length, drop}
use Rattle.cd_shared.specs.Equation.{plain_equations}
use Rattle.cd_resolve.specs.Inner.Walk.{chained}
use Rattle.cd_resolve.specs.Inner.PlainState.{plain_joint}
use Rattle.cd_resolve.proofs.state.State.chain.Given as goal

-- the chain of the nodes from the index on is made
abbrev pub invariant-loop-index : goal.invariant-loop-index
invariant-loop-index l = (l.index < length l.ids)
    × ((l.id, plain_equations l.self.equations.items)
    ≡ chained l.base.first (plain_joint l.joint) (drop l.index l.ids) (plain_equations l.fn.self.equations.items))

abbrev pub decreases-loop-index : goal.decreases-loop-index
decreases-loop-index l = l.index
