use Rattle.std.proofs.Common.{◌∙◌, ap, map}
use Rattle.std.specs.Str.{chars}
use Rattle.cd_model.specs.Thing.{Character}
use Rattle.cd_cells.specs.Cells.{thing_at}
use Rattle.cd_cells.specs.Table.{table}
use Rattle.cd_operations.specs.Along.{items_along}
use Rattle.cd_operations.proofs.ItemsAlong.{turned_items}
use Rattle.cd_operations.proofs.CharactersPushed.{put_on, put_end}
use Rattle.cd_operations.proofs.texts.characters.Goals as goal

pub loop-c-preserved : goal.loop-c-preserved
loop-c-preserved c =
    put_on _ _ _ _ _ _ _ _ _ _ _ _ c.loop-c.invariant c.in-Some.ensures.steps.0 c.in_ok-letter.ensures.grows c.in_ok-letter.ensures.is
    c.in_ok-made.ensures.grows c.in_ok-made.ensures.is

pub returns-clause-is : goal.returns-clause-is
returns-clause-is c = put_end _ _ _ _ _ _ c.loop-c.invariant c.in-None.ensures.steps.0.0

pub returns-clause-items : goal.returns-clause-items
returns-clause-items c =
    let at = put_end _ _ _ _ _ _ c.loop-c.invariant c.in-None.ensures.steps.0.0 in
    ap items_along at.is ∙ turned_items (map Character (chars c.args.text.now)) (thing_at (table c.args.values.now) c.args.done.0)
