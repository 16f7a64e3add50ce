use Rattle.std.proofs.Common.{◌≡◌, ◌++◌, drop, map}
use Rattle.cd_apply.proofs.beyond.arguments_of.Given as goal

-- the arguments so far, and those of the arrows that are left, are all
abbrev pub invariant-loop-arrow : goal.invariant-loop-arrow
invariant-loop-arrow l = l.ids.items ++ map (λ arrow. arrow.0) (drop l.arrow-index l.arrows)
    ≡ map (λ arrow. arrow.0) l.arrows
