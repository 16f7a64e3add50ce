use Rattle.std.proofs.Common.{◌≡◌, ◌+◌, drop}
use Rattle.cd_regex.specs.Regular.{items_in_all}
use Rattle.cd_regex.specs.PlainRegular.{plain_all}
use Rattle.cd_regex.proofs.first_edges.+items_in.Given as goal

-- those that are counted and those that are left are all
abbrev pub invariant-items_in_all-loop-is : goal.invariant-items_in_all-loop-is
invariant-items_in_all-loop-is l = l.count + items_in_all (plain_all (drop l.is-index l.all)) ≡ items_in_all (plain_all l.all)
