use Rattle.std.proofs.Common.{◌≡◌, ◌++◌, ◌∷◌, [], drop, map}
use Rattle.cd_kernel.specs.Inner.PlainGroups.{plain_groups}
use Rattle.cd_kernel.proofs.gathering.singly.Given as goal

-- with the groups of the names that are left they are those of all
abbrev pub invariant-loop-name : goal.invariant-loop-name
invariant-loop-name l =
    plain_groups l.groups.items ++ map (λ one. one ∷ []) (drop l.name-index l.names)
    ≡ map (λ one. one ∷ []) l.names
