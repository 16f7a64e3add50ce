use Rattle.std.proofs.Common.{◌≡◌, ◌+◌, drop, map}
use Rattle.cd_matching.specs.Pattern.{regulars_of}
use Rattle.cd_matching.specs.PlainPattern.{plain_regular}
use Rattle.cd_moves.specs.Automaton.{items_in_all}
use Rattle.cd_moves.proofs.first_moves.+items_in.Given as goal

-- those that are counted and those that are left are all
abbrev pub invariant-items_in_all-loop-is : goal.invariant-items_in_all-loop-is
invariant-items_in_all-loop-is l =
    l.count + items_in_all (regulars_of (map plain_regular (drop l.is-index l.all)))
    ≡ items_in_all (regulars_of (map plain_regular l.all))
