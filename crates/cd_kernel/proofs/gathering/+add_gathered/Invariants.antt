use Rattle.std.proofs.Common.{◌≡◌, drop, map}
use Rattle.cd_matching.specs.Pattern.{regulars_of}
use Rattle.cd_matching.specs.PlainPattern.{plain_regular}
use Rattle.cd_kernel.specs.Inner.Gathering.{with_all_gathered}
use Rattle.cd_kernel.proofs.gathering.+add_gathered.Given as goal

-- with the variables of those that are left the names are those of all
abbrev pub invariant-add_all_gathered-loop-is : goal.invariant-add_all_gathered-loop-is
invariant-add_all_gathered-loop-is l =
    with_all_gathered (regulars_of (map plain_regular (drop l.is-index l.all))) l.names.items
    ≡ with_all_gathered (regulars_of (map plain_regular l.all)) l.fn.names.items
