use Rattle.std.proofs.Common.{◌≡◌, ◌++◌, drop}
use Rattle.cd_resolve.specs.Inner.Finding.{declared_under}
use Rattle.cd_resolve.specs.Inner.ScopeLevels.{node_under}
use Rattle.cd_resolve.specs.Inner.PlainBase.{names_outside, lists_outside}
use Rattle.cd_resolve.specs.Inner.PlainFound.{list_levels}
use Rattle.cd_resolve.specs.Inner.PlainState.{plain_levels}
use Rattle.cd_resolve.proofs.lookup.meaning_of.Given as goal

-- a name means by the levels that are left what it means by all
abbrev pub invariant-loop-level : goal.invariant-loop-level
invariant-loop-level l = (node_under (names_outside l.base) (plain_levels (drop l.level-index l.levels)) l.name
    ≡ node_under (names_outside l.base) (plain_levels l.levels) l.name)
    × (declared_under (list_levels (drop l.level-index l.levels) ++ lists_outside l.base) l.name
    ≡ declared_under (list_levels l.levels ++ lists_outside l.base) l.name)
