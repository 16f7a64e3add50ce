use Rattle.std.proofs.Common.{◌≡◌, ◌+◌, ◌∷◌, [], drop, map}
use Rattle.cd_matching.specs.Pattern.{regulars_of}
use Rattle.cd_matching.specs.PlainPattern.{plain_regular}
use Rattle.cd_moves.specs.Automaton.{End, items_in_all}
use Rattle.cd_moves.specs.Inner.Rows.{plain_row, first_moves_in_turn_row, first_moves_of_one_row}
use Rattle.cd_moves.proofs.first_moves.+first_moves.Given as goal

-- with the moves of those that are left the row becomes that of all
abbrev pub invariant-first_moves_in_turn-loop-is : goal.invariant-first_moves_in_turn-loop-is
invariant-first_moves_in_turn-loop-is l =
    (l.at + items_in_all (regulars_of (map plain_regular (drop l.is-index l.all)))
    ≡ l.before + items_in_all (regulars_of (map plain_regular l.all)))
    × (first_moves_in_turn_row (plain_row l.row)
    (regulars_of (map plain_regular (drop l.is-index l.all))) l.at
    ≡ first_moves_in_turn_row (End ∷ []) (regulars_of (map plain_regular l.all)) l.before)

abbrev pub invariant-first_moves_of_one-loop-is : goal.invariant-first_moves_of_one-loop-is
invariant-first_moves_of_one-loop-is l =
    (l.at + items_in_all (regulars_of (map plain_regular (drop l.is-index l.all)))
    ≡ l.before + items_in_all (regulars_of (map plain_regular l.all)))
    × (first_moves_of_one_row (plain_row l.row)
    (regulars_of (map plain_regular (drop l.is-index l.all))) l.at
    ≡ first_moves_of_one_row [] (regulars_of (map plain_regular l.all)) l.before)
