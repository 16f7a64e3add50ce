use Rattle.std.proofs.Common.{◌≡◌, ◌++◌, map, drop}
use Rattle.cd_graph.specs.PlainFormula.{plain}
use Rattle.cd_regex.specs.Automaton.{edge_formula}
use Rattle.cd_regex.proofs.follow.Follow.formula.Given as goal

-- the formulas so far and those of the edges that are left are all
abbrev pub invariant-loop-edge : goal.invariant-loop-edge
invariant-loop-edge l =
    (map plain l.items.items ++ map edge_formula (drop l.edge-index l.edge-items)) ≡ map edge_formula l.edge-items
