use Rattle.std.proofs.Common.{List, ℤ, pos, get_or, map, subst}
use Rattle.std.proofs.lemmas.List.{take_all}
use Rattle.cd_operators.specs.Inner.Combined.{AreOfTwo, interval}
use Rattle.cd_operators.proofs.OfSets.{none_second, of_more, same_place}
use Rattle.cd_operators.proofs.combined.of_pieces.Goals as goal

pub loop-bounds-init : goal.loop-bounds-init
loop-bounds-init c = none_second c.args.operation (map interval c.args.first.now)
    c.empty-all.result c.empty-all.ensures

-- one of the second bounds more
pub loop-bounds-preserved : goal.loop-bounds-preserved
loop-bounds-preserved c =
    let pieces = c.args.second.now in
    let i = c.loop-bounds.bounds-index in
    let piece : ℤ × ℤ = get_or pieces i (pos 0, pos 0) in
    let below = c.loop-bounds-test.true in
    of_more c.args.operation pieces i piece below (same_place pieces i (pos 0, pos 0) below)
    c.loop-bounds.all c.in_ok-with_piece.field-0 c.in_ok-all.all c.in_ok-all.ensures
    (map interval c.args.first.now) c.loop-bounds.invariant c.in_ok-with_piece.ensures

pub returns : goal.returns
returns c = subst (λ (second : List (ℤ × ℤ)). AreOfTwo c.args.operation
    (map interval c.args.first.now) (map interval second) c.loop-bounds.all)
    (take_all c.loop-bounds.bounds-index c.args.second.now c.loop-bounds-test.false)
    c.loop-bounds.invariant
