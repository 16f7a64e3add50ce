use Rattle.std.proofs.Common.{◌≡◌, ◌++◌, drop, map}
use Rattle.cd_matching.specs.Pattern.{regulars_of}
use Rattle.cd_matching.specs.PlainPattern.{plain_regular}
use Rattle.cd_kernel.specs.Inner.Gathering.{all_gathering}
use Rattle.cd_kernel.proofs.gathering.+add_gathering.Given as goal

-- with those of the expressions that are left they are those of all
abbrev pub invariant-add_all_gathering-loop-is : goal.invariant-add_all_gathering-loop-is
invariant-add_all_gathering-loop-is l =
    l.gatherers.items ++ all_gathering l.variables l.group l.around
    (regulars_of (map plain_regular (drop l.is-index l.all)))
    ≡ l.fn.gatherers.items ++ all_gathering l.variables l.group l.around
    (regulars_of (map plain_regular l.all))
