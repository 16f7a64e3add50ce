use Rattle.std.proofs.Common.{◌-◌, refl, ap, arith}
use Rattle.cd_matching.specs.PlainPattern.{plain_regular}
use Rattle.cd_moves.specs.Automaton.{items_in, items_in_all}
use Rattle.cd_moves.specs.Inner.Rows.{plain_rows, plain_row, first_moves_row}
use Rattle.cd_moves.proofs.LastPart.{parts_left, one_more_left, left_are_fewer, after_step}
use Rattle.cd_moves.proofs.LastPart.{in_turn_step, of_one_step, before_part}
use Rattle.cd_kernel.proofs.states.+add_states.Goals as goal

-- one of those that are left has no more items than all of them
pub add_in_turn-items_in-at-requires : goal.add_in_turn-items_in-at-requires
add_in_turn-items_in-at-requires t c =
    let all = c.args.all.now in
    let more = ap items_in_all (one_more_left all c.loop-index.index c.index-all-index.result
    c.index-all-index.is c.loop-index-test.true c.loop-index.invariant.0) in
    let fewer = left_are_fewer all (c.loop-index.index - 1) in
    let bound = c.requires in
    omega (arith, more, fewer, bound)

pub add_in_turn-overflow_sub-at : goal.add_in_turn-overflow_sub-at
add_in_turn-overflow_sub-at t c =
    let all = c.args.all.now in
    let more = ap items_in_all (one_more_left all c.loop-index.index c.index-all-index.result
    c.index-all-index.is c.loop-index-test.true c.loop-index.invariant.0) in
    let fewer = left_are_fewer all (c.loop-index.index - 1) in
    let count = c.items_in-at.ensures in
    let sum = c.loop-index.invariant.1 in
    omega (arith, more, fewer, count, sum)

pub add_of_one-items_in-at-requires : goal.add_of_one-items_in-at-requires
add_of_one-items_in-at-requires t c =
    let all = c.args.all.now in
    let more = ap items_in_all (one_more_left all c.loop-index.index c.index-all-index.result
    c.index-all-index.is c.loop-index-test.true c.loop-index.invariant.0) in
    let fewer = left_are_fewer all (c.loop-index.index - 1) in
    let bound = c.requires in
    omega (arith, more, fewer, bound)

pub add_of_one-overflow_sub-at : goal.add_of_one-overflow_sub-at
add_of_one-overflow_sub-at t c =
    let all = c.args.all.now in
    let more = ap items_in_all (one_more_left all c.loop-index.index c.index-all-index.result
    c.index-all-index.is c.loop-index-test.true c.loop-index.invariant.0) in
    let fewer = left_are_fewer all (c.loop-index.index - 1) in
    let count = c.items_in-at.ensures in
    let sum = c.loop-index.invariant.1 in
    omega (arith, more, fewer, count, sum)

-- the part before those that were gone over
pub add_in_turn-loop-index-preserved : goal.add_in_turn-loop-index-preserved
add_in_turn-loop-index-preserved t c =
    let all = c.args.all.now in
    let index = c.loop-index.index in
    let at = c.loop-index.at in
    let first = plain_regular c.index-all-index.result in
    let is = one_more_left all index c.index-all-index.result c.index-all-index.is
    c.loop-index-test.true c.loop-index.invariant.0 in
    let more = ap items_in_all is in
    let fewer = left_are_fewer all (index - 1) in
    let count = c.items_in-at.ensures in
    let within = c.loop-index.invariant.0 in
    let sum = c.loop-index.invariant.1 in
    let back = before_part at c.items_in-at.result (items_in first) count
    (omega (arith, more, fewer, count, sum)) in (
      omega (arith, within),
      omega (arith, more, fewer, count, sum),
      after_step first (parts_left all index) (parts_left all (index - 1)) at
          (at - c.items_in-at.result) (plain_row c.args.next.now) (plain_row c.loop-index.after)
          (first_moves_row first (at - c.items_in-at.result)) (plain_row c.in_ok-after-2.after) is back
          c.loop-index.invariant.2 refl c.in_ok-after-2.ensures,
      in_turn_step first (parts_left all index) (parts_left all (index - 1)) at
          (at - c.items_in-at.result) (plain_row c.args.next.now) (plain_row c.loop-index.after)
          (plain_rows c.args.rows.now.items) (plain_rows c.loop-index.rows.items)
          (plain_rows c.add_states.new.rows.items) is back c.loop-index.invariant.2
          c.loop-index.invariant.3 c.in_ok-add_states.ensures,
    )

pub add_of_one-loop-index-preserved : goal.add_of_one-loop-index-preserved
add_of_one-loop-index-preserved t c =
    let all = c.args.all.now in
    let index = c.loop-index.index in
    let at = c.loop-index.at in
    let first = plain_regular c.index-all-index.result in
    let is = one_more_left all index c.index-all-index.result c.index-all-index.is
    c.loop-index-test.true c.loop-index.invariant.0 in
    let more = ap items_in_all is in
    let fewer = left_are_fewer all (index - 1) in
    let count = c.items_in-at.ensures in
    let within = c.loop-index.invariant.0 in
    let sum = c.loop-index.invariant.1 in
    let back = before_part at c.items_in-at.result (items_in first) count
    (omega (arith, more, fewer, count, sum)) in (
      omega (arith, within),
      omega (arith, more, fewer, count, sum),
      of_one_step first (parts_left all index) (parts_left all (index - 1)) at
          (at - c.items_in-at.result) (plain_row c.args.next.now)
          (plain_rows c.args.rows.now.items) (plain_rows c.loop-index.rows.items)
          (plain_rows c.add_states.new.rows.items) is back c.loop-index.invariant.2
          c.in_ok-add_states.ensures,
    )
