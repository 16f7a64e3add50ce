-- What is met at an item of a sequence.
use Rattle.std.specs.Prelude.{◌≡◌, ◌<◌, List, length}
use Rattle.cd_model.specs.Thing.{Thing}
use Rattle.cd_program.specs.Expr.{Item, Items, AnItem}
use Rattle.cd_cells.specs.Cells.{thing_at}
use Rattle.cd_cells.specs.Table.{table}
use Rattle.cd_cells.specs.declared.values.Values.{Values}
use Rattle.cd_evaluation.specs.Environment.{Env}
use Rattle.cd_operations.specs.Along.{items_along}
use Rattle.cd_machine.specs.Inner.Entering.{items_turn}
use Rattle.cd_machine.specs.Inner.PlainFrame.{Comes, IsWithin}
use Rattle.cd_machine.specs.declared.environments.EnvId.{EnvId}
use Rattle.cd_machine.specs.declared.lists.Met.{Met}
use Rattle.cd_machine.specs.declared.lists.Met.TheVariants.{Expression, Characters}

-- an expression, or characters that are put after what is done, before the items that are left
abbrev pub Meets : Values → EnvId → Item → Items → (done : List Thing) → Met → Type 0
Meets values env item rest done (Expression turn) =
    Comes values env turn (λ e. items_turn (AnItem item rest) e done) × IsWithin values env turn
Meets values env item rest done (Characters id) = (id.0 < length (table values))
    × ((e : Env) → items_turn (AnItem item rest) e done
    ≡ items_turn rest e (items_along (thing_at (table values) id.0)))
