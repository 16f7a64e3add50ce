use Rattle.std.proofs.Common.{◌≡◌, ◌++◌, map, drop}
use Rattle.cd_graph.specs.Nodes.{nodes}
use Rattle.cd_graph.specs.PlainFormula.{plain}
use Rattle.cd_resolve.specs.Inner.Filling.{so_far}
use Rattle.cd_resolve.proofs.solve.copies.Given as goal

-- the copies so far and those of the nodes that are left are all
abbrev pub invariant-loop-id : goal.invariant-loop-id
invariant-loop-id l = (map plain l.items.items
    ++ map (so_far (nodes l.old) l.first (map plain l.formulas)) (drop l.id-index l.ids))
    ≡ map (so_far (nodes l.old) l.first (map plain l.formulas)) l.ids
