use Rattle.std.proofs.Common.{◌∷◌, map, ap, ◌∙◌, sym}
use Rattle.cd_model.specs.Thing.{Thing, Pair}
use Rattle.cd_program.specs.Expr.{items_of}
use Rattle.cd_program.specs.PlainExpr.{plain_item}
use Rattle.cd_cells.specs.Cells.{thing_at}
use Rattle.cd_cells.specs.Table.{table}
use Rattle.cd_cells.proofs.TableGrows.{last_at}
use Rattle.cd_operations.specs.Along.{items_along}
use Rattle.cd_machine.specs.Inner.Entering.{items_turn}
use Rattle.cd_machine.specs.Inner.PlainFrame.{env_at}
use Rattle.cd_cells.proofs.GrownTables.{thing_grown, further}
use Rattle.cd_machine.proofs.parts.put_item.Goals as goal

-- the item stands before those that are done
pub returns-clause-next : goal.returns-clause-next
returns-clause-next c =
    let pair = c.in_ok-done.ensures {u = tt} in
    let next = c.in_ok-next_item.ensures {u = tt} in
    let old = c.args.values.now in
    let middle = c.pair.new.self in
    let new = c.next_item.new.values in
    let grows = further old middle new pair.grows next.grows in
    let item = thing_at (table old) c.args.id.0 in
    let done = thing_at (table old) c.args.done.0 in
    let is = (last_at (table old) (table middle) c.in_ok-done.done.0 (Pair item done) pair.added pair.number).is in
    λ all. next.next all ∙ ap (items_turn (items_of (map plain_item c.args.rest.now)) (env_at new all c.args.env))
    (ap items_along is ∙ ap (λ (v : Thing). v ∷ items_along done) (sym (thing_grown old new grows c.args.id.0 c.requires.value))
    ∙ ap (λ (w : Thing). thing_at (table new) c.args.id.0 ∷ items_along w) (sym (thing_grown old new grows c.args.done.0 c.requires.done)))
