use Rattle.std.proofs.Common.{◌≡◌, ◌++◌, map, drop}
use Rattle.cd_resolve.specs.Inner.Links.{numbers_of}
use Rattle.cd_resolve.proofs.links.row_of_signs.Given as goal

-- the numbers so far and those of the nodes that are left are all
abbrev pub invariant-loop-id : goal.invariant-loop-id
invariant-loop-id l = (l.row.items ++ numbers_of l.first (map (λ sign. sign.1) (drop l.id-index l.signs)))
    ≡ numbers_of l.first (map (λ sign. sign.1) l.signs)
