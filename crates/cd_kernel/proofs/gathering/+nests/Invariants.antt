use Rattle.std.proofs.Common.{◌≡◌, drop, map}
use Rattle.cd_matching.specs.Pattern.{regulars_of}
use Rattle.cd_matching.specs.PlainPattern.{plain_regular}
use Rattle.cd_kernel.specs.Inner.Gathering.{one_nests}
use Rattle.cd_kernel.proofs.gathering.+nests.Given as goal

-- one of those that are left is such where one of all is
abbrev pub invariant-one_nests-loop-is : goal.invariant-one_nests-loop-is
invariant-one_nests-loop-is l =
    one_nests l.within (regulars_of (map plain_regular (drop l.is-index l.all)))
    ≡ one_nests l.within (regulars_of (map plain_regular l.all))
