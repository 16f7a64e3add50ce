use Rattle.std.proofs.Common.{◌≡◌, ◌++◌, drop, map}
use Rattle.cd_normal.specs.Inner.PlainConjunct.{plain_conjunct, plain_conjuncts}
use Rattle.cd_normal.proofs.joining.add_joined.Given as goal

-- the conjuncts so far, and those with the others that are left, are all
abbrev pub invariant-loop-other : goal.invariant-loop-other
invariant-loop-other l =
    plain_conjuncts l.all.items ++ map (λ other. plain_conjunct l.conjunct ++ other) (plain_conjuncts (drop l.other-index l.others))
    ≡ plain_conjuncts l.fn.all.items ++ map (λ other. plain_conjunct l.conjunct ++ other) (plain_conjuncts l.others)
