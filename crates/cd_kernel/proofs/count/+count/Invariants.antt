use Rattle.std.proofs.Common.{◌≡◌, ◌+◌, ◌<◌, ◌^◌, drop, map}
use Rattle.cd_matching.specs.Pattern.{regulars_of}
use Rattle.cd_matching.specs.PlainPattern.{plain_regular}
use Rattle.cd_moves.specs.Automaton.{items_in_all}
use Rattle.cd_kernel.proofs.count.+count.Given as goal

-- those that are counted and those that are left are all
abbrev pub invariant-count_all-loop-is : goal.invariant-count_all-loop-is
invariant-count_all-loop-is l =
    (l.so_far < 2 ^ 64)
    × (l.so_far + items_in_all (regulars_of (map plain_regular (drop l.is-index l.all)))
    ≡ items_in_all (regulars_of (map plain_regular l.all)))
