use Rattle.std.proofs.Common.{◌≡◌, ◌∷◌, ◌++◌, drop, map}
use Rattle.cd_products.proofs.cut.with_first.Given as goal

-- the boxes so far, and those that are left, are all
abbrev pub invariant-loop-cells : goal.invariant-loop-cells
invariant-loop-cells l =
    l.all.items ++ map (λ cells. l.fn.cell ∷ cells) (drop l.cells-index l.boxes)
    ≡ l.fn.first ∷ map (λ cells. l.fn.cell ∷ cells) l.boxes
