use Rattle.std.proofs.Common.{◌≡◌, ◌+◌, ◌≤◌, ◌++◌, length, drop, map}
use Rattle.cd_matching.specs.Pattern.{regulars_of}
use Rattle.cd_matching.specs.PlainPattern.{plain_regular}
use Rattle.cd_moves.specs.Automaton.{items_in_all}
use Rattle.cd_moves.specs.Inner.Rows.{plain_rows, plain_row, after_row, rows_back_in_turn}
use Rattle.cd_moves.specs.Inner.Rows.{rows_back_of_one}
use Rattle.cd_kernel.proofs.states.+add_states.Given as goal

-- the rows of those that were gone over
abbrev pub invariant-add_in_turn-loop-index : goal.invariant-add_in_turn-loop-index
invariant-add_in_turn-loop-index l = (l.index ≤ length l.all)
    × (l.at + items_in_all (regulars_of (map plain_regular (drop l.index l.all)))
    ≡ l.before + items_in_all (regulars_of (map plain_regular l.all)))
    × (plain_row l.after ≡ after_row (regulars_of (map plain_regular (drop l.index l.all))) l.at
    (plain_row l.next))
    × (plain_rows l.rows.items ≡ plain_rows l.fn.rows.items
    ++ rows_back_in_turn (regulars_of (map plain_regular (drop l.index l.all))) l.at
    (plain_row l.next))

abbrev pub decreases-add_in_turn-loop-index : goal.decreases-add_in_turn-loop-index
decreases-add_in_turn-loop-index l = l.index

abbrev pub invariant-add_of_one-loop-index : goal.invariant-add_of_one-loop-index
invariant-add_of_one-loop-index l = (l.index ≤ length l.all)
    × (l.at + items_in_all (regulars_of (map plain_regular (drop l.index l.all)))
    ≡ l.before + items_in_all (regulars_of (map plain_regular l.all)))
    × (plain_rows l.rows.items ≡ plain_rows l.fn.rows.items
    ++ rows_back_of_one (regulars_of (map plain_regular (drop l.index l.all))) l.at
    (plain_row l.next))

abbrev pub decreases-add_of_one-loop-index : goal.decreases-add_of_one-loop-index
decreases-add_of_one-loop-index l = l.index
