use Rattle.std.proofs.Common.{◌≡◌, ◌∷◌, ◌++◌, drop}
use Rattle.cd_products.proofs.cut.put.Given as goal

-- the cells so far, and those that are left, are all
abbrev pub invariant-loop-cell : goal.invariant-loop-cell
invariant-loop-cell l = l.all.items ++ drop l.cell-index l.cells ≡ l.fn.first ∷ l.cells
