use Rattle.std.proofs.Common.{◌≡◌, ◌++◌, drop, map}
use Rattle.cd_products.specs.Inner.ClauseBoxes.{triple_row}
use Rattle.cd_products.proofs.of_xmls.rows_of.Given as goal

-- the rows so far, and those that are left, are all
abbrev pub invariant-loop-parts : goal.invariant-loop-parts
invariant-loop-parts l = map (λ row. row.items) l.rows.items
    ++ map triple_row (drop l.parts-index l.triples) ≡ map triple_row l.triples
