use Rattle.std.proofs.Common.{List, arith}
use Rattle.cd_model.specs.Thing.{Thing}
use Rattle.cd_elements.specs.Inner.Rows.{part_text_in}
use Rattle.cd_elements.proofs.WholeRows.{put_after}
use Rattle.cd_elements.proofs.rows.push_fields.Goals as goal

-- one more is put
pub loop-index-preserved : goal.loop-index-preserved
loop-index-preserved c =
    let part = c.index-parts-index in
    let more = λ (table : List Thing). put_after (part_text_in table) c.args.mark c.args.parts.now c.loop-index.index
    part.result part.result _ _ _ _ c.loop-index-test.true c.loop-index.invariant.0 part.is
    (c.loop-index.invariant.1 table) (c.in_ok-push.ensures table) (c.in_ok-push_mark.ensures table) in
    (omega arith, more)
