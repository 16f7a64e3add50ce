use Rattle.std.proofs.Common.{◌≡◌, ◌++◌, drop}
use Rattle.cd_resolve.specs.Inner.PlainFound.{list_levels}
use Rattle.cd_resolve.specs.Inner.PlainState.{plain_levels}
use Rattle.cd_resolve.proofs.scope.add_all.Given as goal

-- those that are there, and then those that are left, are all
abbrev pub invariant-loop-level : goal.invariant-loop-level
invariant-loop-level l = (plain_levels l.levels.items ++ plain_levels (drop l.level-index l.more)
    ≡ plain_levels l.fn.levels.items ++ plain_levels l.more)
    × (list_levels l.levels.items ++ list_levels (drop l.level-index l.more)
    ≡ list_levels l.fn.levels.items ++ list_levels l.more)
