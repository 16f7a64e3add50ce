use Rattle.std.proofs.Common.{◌≡◌, ◌++◌, drop, map}
use Rattle.cd_check.proofs.program.interfaces_of.Given as goal

-- the nodes so far, and those of the rest, are those of all
abbrev pub invariant-loop-one : goal.invariant-loop-one
invariant-loop-one l = l.ids.items ++ map (λ one. one.whole) (drop l.one-index l.functions)
    ≡ map (λ one. one.whole) l.functions
