use Rattle.std.proofs.Common.{◌≡◌, ◌++◌, map, length}
use Rattle.cd_graph.specs.PlainFormula.{plain}
use Rattle.cd_forms.specs.Inner.Chains.{chain_from}
use Rattle.cd_forms.proofs.pairs.add_pairs.Given as goal

-- the pairs so far, and those of the heads that are left, are all
abbrev pub invariant-loop-left : goal.invariant-loop-left
invariant-loop-left l = map plain l.formulas.items ++ chain_from l.number l.left l.end
    ≡ map plain l.fn.formulas.items ++ chain_from l.first l.heads l.end

abbrev pub decreases-loop-left : goal.decreases-loop-left
decreases-loop-left l = length l.left
