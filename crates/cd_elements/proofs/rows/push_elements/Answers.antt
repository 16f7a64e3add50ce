use Rattle.std.proofs.Common.{List, refl, arith}
use Rattle.cd_model.specs.Thing.{Thing}
use Rattle.cd_elements.specs.declared.task.Mark.TheVariants.{Comma}
use Rattle.cd_elements.specs.Inner.Tasks.{text_in}
use Rattle.cd_elements.proofs.WholeRows.{put_after}
use Rattle.cd_elements.proofs.rows.push_elements.Goals as goal

-- one more is put
pub loop-index-preserved : goal.loop-index-preserved
loop-index-preserved c =
    let more = λ (table : List Thing). put_after (text_in table) Comma c.args.ids.now c.loop-index.index
    _ (record { 0 = 0 }) _ _ _ _ c.loop-index-test.true c.loop-index.invariant.0 refl
    (c.loop-index.invariant.1 table) (c.in_ok-push_element.ensures table) (c.in_ok-push_mark.ensures table) in
    (omega arith, more)
