use Rattle.std.proofs.Common.{◌≡◌, ◌++◌, map, drop}
use Rattle.cd_graph.specs.Nodes.{nodes}
use Rattle.cd_graph.specs.PlainFormula.{plain}
use Rattle.cd_graph.specs.Inner.Questions.{inside}
use Rattle.cd_graph.proofs.graph.Graph.copies.Given as goal

-- the copies so far and those of the nodes that are left are all
abbrev pub invariant-loop-id : goal.invariant-loop-id
invariant-loop-id l =
    (map plain l.formulas.items ++ inside (nodes l.self) (drop l.id-index l.ids)) ≡ inside (nodes l.self) l.ids
