use Rattle.std.proofs.Common.{◌≡◌, ◌+◌, ◌<◌, ◌^◌, drop}
use Rattle.cd_regex.specs.Regular.{items_in_all}
use Rattle.cd_regex.specs.PlainRegular.{plain_all}
use Rattle.cd_regex.proofs.count.+count.Given as goal

-- those that are counted and those that are left are all
abbrev pub invariant-count_all-loop-is : goal.invariant-count_all-loop-is
invariant-count_all-loop-is l =
    (l.so_far < 2 ^ 64) × (l.so_far + items_in_all (plain_all (drop l.is-index l.all)) ≡ items_in_all (plain_all l.all))
