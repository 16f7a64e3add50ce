use Rattle.std.proofs.Common.{◌≡◌, ◌≤◌, length, drop}
use Rattle.cd_shared.specs.Equation.{plain_equations}
use Rattle.cd_resolve.specs.Inner.Walk.{walked_text}
use Rattle.cd_resolve.proofs.state.State.text.Given as goal

-- the text of the characters from the index on is made
abbrev pub invariant-loop-index : goal.invariant-loop-index
invariant-loop-index l = (l.index ≤ length l.text.items)
    × ((l.id, plain_equations l.self.equations.items)
    ≡ walked_text l.base.first (drop l.index l.text.items) (plain_equations l.fn.self.equations.items))

abbrev pub decreases-loop-index : goal.decreases-loop-index
decreases-loop-index l = l.index
