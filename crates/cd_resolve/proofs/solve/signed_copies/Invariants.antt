use Rattle.std.proofs.Common.{◌≡◌, ◌++◌, map, drop}
use Rattle.cd_graph.specs.Nodes.{nodes}
use Rattle.cd_graph.specs.PlainFormula.{plain}
use Rattle.cd_resolve.specs.Inner.Solves.{signed}
use Rattle.cd_resolve.specs.Inner.Filling.{so_far}
use Rattle.cd_resolve.proofs.solve.signed_copies.Given as goal

-- the copies so far and those of the nodes that are left are all
abbrev pub invariant-loop-kept : goal.invariant-loop-kept
invariant-loop-kept l = (map plain l.items.items
    ++ map (λ sign. signed sign.0 (so_far (nodes l.old) l.first (map plain l.formulas) sign.1))
    (drop l.kept-index l.signs))
    ≡ map (λ sign. signed sign.0 (so_far (nodes l.old) l.first (map plain l.formulas) sign.1)) l.signs
