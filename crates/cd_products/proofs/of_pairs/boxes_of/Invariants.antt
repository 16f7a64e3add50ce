use Rattle.std.proofs.Common.{◌≡◌, ◌++◌, drop, map}
use Rattle.cd_normal.specs.PlainClause.{plain_clause}
use Rattle.cd_products.specs.Inner.ClauseBoxes.{pair_boxes}
use Rattle.cd_products.specs.Inner.PlainBoxes.{plain_box}
use Rattle.cd_products.proofs.of_pairs.boxes_of.Given as goal

-- the boxes so far, and those of the clauses that are left, are all
abbrev pub invariant-loop-clause : goal.invariant-loop-clause
invariant-loop-clause l = map plain_box l.boxes.items
    ++ pair_boxes (map plain_clause (drop l.clause-index l.clauses))
    ≡ pair_boxes (map plain_clause l.clauses)
