use Rattle.std.proofs.Common.{[], ◌∷◌, ◌∙◌}
use Rattle.cd_products.specs.Inner.Tests.{keep_boxes}
use Rattle.cd_products.proofs.Gathering.{gathered}
use Rattle.cd_products.proofs.KeptBoxes.{keep_apart}
use Rattle.cd_products.proofs.WorldsAfter.{and_after, test_after}
use Rattle.cd_products.proofs.inhabited.keep.Goals as goal

pub loop-cells-preserved : goal.loop-cells-preserved
loop-cells-preserved c =
    let so_far = c.loop-cells.invariant in
    let step = c.in_ok-keep_one.ensures in (
      and_after _ _ _ so_far.0 step.after,
      λ test is. gathered (λ box. keep_boxes test (box ∷ [])) (keep_boxes test) (keep_apart test)
          c.args.boxes.now c.loop-cells.cells-index c.cells-item.result c.loop-cells.kept.items _
          c.loop-cells-test.true c.cells-item.is
          (step.exact test (test_after _ _ so_far.0 test is))
          ∙ so_far.1 test is,
    )
