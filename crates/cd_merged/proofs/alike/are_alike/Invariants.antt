use Rattle.std.proofs.Common.{ℕ, ◌<◌}
use Rattle.cd_matching.specs.PlainKernel.{plain_nodes}
use Rattle.cd_merged.specs.Inner.Classes.{HasFirst, IsFirst}
use Rattle.cd_merged.proofs.alike.are_alike.Given as goal

-- the classes that were gone over have first nodes
abbrev pub invariant-loop-class : goal.invariant-loop-class
invariant-loop-class l = (k : ℕ) → k < l.class
    → HasFirst l.count l.classes.numbers.items l.classes.firsts.items k

-- and the nodes are the first ones of their classes
abbrev pub invariant-loop-number : goal.invariant-loop-number
invariant-loop-number l = (k : ℕ) → k < l.number
    → IsFirst (plain_nodes l.nodes) l.classes.numbers.items l.classes.firsts.items k
