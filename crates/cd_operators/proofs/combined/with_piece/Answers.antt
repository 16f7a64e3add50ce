use Rattle.std.proofs.Common.{◌∷◌, [], List, ℤ, pos, get_or, map, subst}
use Rattle.std.proofs.lemmas.List.{take_all}
use Rattle.cd_products.proofs.AtPlaces.{each_at}
use Rattle.cd_operators.specs.Inner.Bounds.{lowest, highest}
use Rattle.cd_operators.specs.Inner.Combined.{AreOfTwo, IsPiece, interval}
use Rattle.cd_operators.proofs.OfSets.{none_first, one_and_one, with_more, same_place}
use Rattle.cd_operators.proofs.combined.with_piece.Goals as goal

pub loop-piece-init : goal.loop-piece-init
loop-piece-init c = none_first c.args.operation (interval c.args.bounds ∷ []) c.empty-all.result
    c.empty-all.ensures

-- one of these bounds more
pub loop-piece-preserved : goal.loop-piece-preserved
loop-piece-preserved c =
    let operation = c.args.operation in
    let pieces = c.args.first.now in
    let i = c.loop-piece.piece-index in
    let piece : ℤ × ℤ = get_or pieces i (pos 0, pos 0) in
    let below = c.loop-piece-test.true in
    let is = same_place pieces i (pos 0, pos 0) below in
    let bounds = c.args.bounds in
    let made = c.in_ok-between.field-0 in
    with_more operation pieces i piece below is c.loop-piece.all made c.in_ok-all.all
    c.in_ok-all.ensures (interval bounds ∷ []) c.loop-piece.invariant
    (one_and_one operation piece bounds made
    (each_at IsPiece pieces i piece c.requires.first below is) c.requires.bounds
    (c.in_ok-between.ensures (lowest operation piece bounds) (highest operation piece bounds)
    c.lowest-low.ensures c.highest-high.ensures))

pub returns : goal.returns
returns c = subst (λ (first : List (ℤ × ℤ)). AreOfTwo c.args.operation (map interval first)
    (interval c.args.bounds ∷ []) c.loop-piece.all)
    (take_all c.loop-piece.piece-index c.args.first.now c.loop-piece-test.false)
    c.loop-piece.invariant
