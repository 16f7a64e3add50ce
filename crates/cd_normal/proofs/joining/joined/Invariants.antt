use Rattle.std.proofs.Common.{◌≡◌, ◌++◌, drop}
use Rattle.cd_rules.specs.Dnf.{joined}
use Rattle.cd_normal.specs.Inner.PlainConjunct.{plain_conjuncts}
use Rattle.cd_normal.proofs.joining.joined.Given as goal

-- the conjuncts so far, and those of the conjuncts that are left, are all
abbrev pub invariant-loop-conjunct : goal.invariant-loop-conjunct
invariant-loop-conjunct l =
    plain_conjuncts l.all.items ++ joined (plain_conjuncts (drop l.conjunct-index l.conjuncts)) (plain_conjuncts l.others)
    ≡ joined (plain_conjuncts l.conjuncts) (plain_conjuncts l.others)
