use Rattle.std.proofs.Common.{◌≡◌, ◌++◌, map, drop}
use Rattle.cd_graph.specs.Nodes.{nodes}
use Rattle.cd_graph.specs.PlainFormula.{plain}
use Rattle.cd_resolved.proofs.copy.formulas_after.Given as goal

-- those that are copied, and those to come, are all
abbrev pub invariant-loop-place : goal.invariant-loop-place
invariant-loop-place l =
    map plain l.formulas.items ++ drop l.place (nodes l.graph) ≡ drop l.fn.first (nodes l.fn.graph)
