use Rattle.std.proofs.Common.{◌+◌, ap, sym, ◌∙◌, arith}
use Rattle.cd_matching.specs.PlainPattern.{plain_regular}
use Rattle.cd_matching.specs.Pattern.{regulars_of}
use Rattle.std.proofs.Common.{map}
use Rattle.cd_moves.specs.Automaton.{End, items_in, items_in_all}
use Rattle.cd_moves.specs.Inner.Rows.{plain_row, first_moves_in_turn_row, first_moves_of_one_row}
use Rattle.cd_moves.specs.Automaton.{Move}
use Rattle.std.proofs.Common.{◌∷◌, []}
use Rattle.cd_moves.proofs.LastPart.{parts_left}
use Rattle.cd_moves.proofs.FirstMovesMade.{first_left, in_turn_next, of_one_next, further}
use Rattle.cd_moves.proofs.first_moves.+first_moves.Goals as goal

-- the moves of one more
pub first_moves_in_turn-loop-is-preserved : goal.first_moves_in_turn-loop-is-preserved
first_moves_in_turn-loop-is-preserved t c =
    let all = c.args.all.now in
    let index = c.loop-is.is-index in
    let first = plain_regular c.is-item.result in
    let are = first_left all index c.is-item.result c.is-item.is c.loop-is-test.true in
    let whole = regulars_of (map plain_regular all) in (
      further first (parts_left all (index + 1)) (parts_left all index) c.loop-is.at
          c.items_in-at.result (c.args.before + items_in_all whole) are c.items_in-at.ensures
          c.loop-is.invariant.0,
      in_turn_next first (parts_left all (index + 1)) (parts_left all index) c.loop-is.at
          c.items_in-at.result (plain_row c.loop-is.row) (plain_row c.in_ok-next.next)
          (plain_row c.in_ok-row-2.row)
          (first_moves_in_turn_row (End ∷ []) whole c.args.before) are c.items_in-at.ensures
          c.in_ok-next.ensures c.in_ok-row-2.ensures (sym c.has.ensures ∙ c.if-not-has.false)
          c.loop-is.invariant.1,
    )

pub first_moves_of_one-loop-is-preserved : goal.first_moves_of_one-loop-is-preserved
first_moves_of_one-loop-is-preserved t c =
    let all = c.args.all.now in
    let index = c.loop-is.is-index in
    let first = plain_regular c.is-item.result in
    let are = first_left all index c.is-item.result c.is-item.is c.loop-is-test.true in
    let whole = regulars_of (map plain_regular all) in (
      further first (parts_left all (index + 1)) (parts_left all index) c.loop-is.at
          c.items_in-at.result (c.args.before + items_in_all whole) are c.items_in-at.ensures
          c.loop-is.invariant.0,
      of_one_next first (parts_left all (index + 1)) (parts_left all index) c.loop-is.at
          c.items_in-at.result (plain_row c.loop-is.row) (plain_row c.in_ok-others.others)
          (plain_row c.add_all.new.self) (first_moves_of_one_row [] whole c.args.before) are
          c.items_in-at.ensures c.in_ok-others.ensures c.in_ok-add_all.ensures
          c.loop-is.invariant.1,
    )
