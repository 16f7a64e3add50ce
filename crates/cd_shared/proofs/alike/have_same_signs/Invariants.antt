use Rattle.std.proofs.Common.{◌≡◌, map, drop}
use Rattle.cd_shared.specs.Shared.{class_in, classed_sign}
use Rattle.cd_shared.proofs.alike.have_same_signs.Given as goal

-- the lists have the same classes where what is left of them has
abbrev pub invariant-loop-index : goal.invariant-loop-index
invariant-loop-index l = l.joined.one ≡ l.joined.other → map (classed_sign (class_in l.classes)) (drop l.index l.some)
    ≡ map (classed_sign (class_in l.classes)) (drop l.index l.others)
    → map (classed_sign (class_in l.classes)) l.some
    ≡ map (classed_sign (class_in l.classes)) l.others
