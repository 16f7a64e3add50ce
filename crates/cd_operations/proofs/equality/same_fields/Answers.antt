use Rattle.std.proofs.Common.{sym, subst, Bool}
use Rattle.cd_cells.specs.Cells.{fields_of}
use Rattle.cd_cells.specs.Table.{table, names}
use Rattle.cd_evaluation.specs.Equality as equality
use Rattle.cd_operations.specs.Inner.Comparing.{weight_of_fields, Adds}
use Rattle.cd_operations.proofs.PairsCompared.{goes_on, all_over}
use Rattle.cd_operations.proofs.equality.same_fields.Goals as goal

pub loop-one-preserved : goal.loop-one-preserved
loop-one-preserved c =
    goes_on _ _ _ _ _ _ _ _ _ _ _ _ c.in-Some.ensures c.in-Some-split.ensures c.loop-one.invariant _ _ _
    c.id.ensures c.id-in-Some.ensures c.if-not-same_name.ensures c.in_ok-push.ensures.items

pub returns : goal.returns
returns c =
    let values = c.args.values.now in
    let fields = fields_of (names values) (table values) in
    let over = all_over _ _ _ _ _ _ _ _ c.in_default.ensures c.loop-one.invariant in
    subst (λ (is : Bool). Adds (table values) (equality.same_fields (fields c.args.parts.now) (fields c.args.others.now))
    (weight_of_fields (fields c.args.parts.now)) c.args.pairs.now.items c.loop-one.pairs.items is) (sym c.is_empty.ensures) over
