use Rattle.std.proofs.Common.{◌≡◌, Some, subst, sym, ap, ◌∙◌}
use Rattle.cd_model.specs.Thing.{Thing}
use Rattle.cd_matching.specs.Sequences.{items}
use Rattle.cd_program.specs.PlainExpr.{plain_branches}
use Rattle.cd_cells.specs.Cells.{thing_at}
use Rattle.cd_cells.specs.Table.{table}
use Rattle.cd_operations.specs.Along.{items_along}
use Rattle.cd_machine.specs.Inner.CodeIn.{code_in}
use Rattle.cd_machine.specs.Inner.InOrder.{IsAfter}
use Rattle.cd_machine.specs.Inner.PlainFrame.{plain_turn, env_at, items_at}
use Rattle.cd_machine.proofs.Afterwards.{after_then, after_values}
use Rattle.cd_machine.proofs.ItemsMapped.{is_list, maps_all}
use Rattle.cd_cells.proofs.GrownTables.{thing_grown, further}
use Rattle.cd_machine.proofs.maps.map.Goals as goal
use Rattle.cd_machine.proofs.maps.map.Goals.{In_ok-none}

-- the empty sequence is there
ready : (c : In_ok-none) → IsAfter c.args.code.now c.args.values.now c.args.environments.now c.args.code.now c.nil.new.self c.args.environments.now
ready c = after_values c.args.code.now c.args.values.now c.nil.new.self c.args.environments.now c.requires.order (c.in_ok-none.ensures {u = tt}).grows

pub map_on-requires-clause-order : goal.map_on-requires-clause-order
map_on-requires-clause-order c = (ready (goal.at.map_on-requires-clause-order c).In_ok-none).in_order

pub returns-clause-maps : goal.returns-clause-maps
returns-clause-maps c =
    let old = c.args.values.now in
    let middle = c.nil.new.self in
    let new = c.map_on.new.values in
    let none = c.in_ok-none.ensures {u = tt} in
    let mapped = c.in_ok-map_on.ensures {u = tt} in
    let v = thing_at (table old) c.args.id.0 in
    let stays = thing_grown old new (further old middle new none.grows mapped.after.grows) c.args.id.0 c.requires.value in
    let list : items (thing_at (table new) c.args.id.0) ≡ Some (items_along (thing_at (table new) c.args.id.0)) =
    subst (λ (v : Thing). items v ≡ Some (items_along v)) (sym stays) (is_list v c.is_sequence.result c.is_sequence.ensures c.if-not-is_sequence.false) in
    maps_all (code_in c.args.code.now) (plain_branches c.args.branches.now) (env_at new c.map_on.new.environments c.args.env) (thing_at (table new) c.args.id.0)
    (items_at new c.map_on.new.environments c.in_ok-none.none) (plain_turn new c.map_on.new.environments c.in_ok-map_on.field-0) list
    (ap items_along (thing_grown middle new mapped.after.grows c.in_ok-none.none.0 none.is.within ∙ none.is.is)) mapped.maps

pub returns-clause-after : goal.returns-clause-after
returns-clause-after c = after_then c.args.code.now c.args.values.now c.args.environments.now c.args.code.now c.nil.new.self c.args.environments.now
    c.map_on.new.code c.map_on.new.values c.map_on.new.environments (ready (goal.at.returns-clause-after c).In_ok-none) c.map_on.ensures.after

pub returns-in_err-map_on-clause-after : goal.returns-in_err-map_on-clause-after
returns-in_err-map_on-clause-after c = after_then c.args.code.now c.args.values.now c.args.environments.now c.args.code.now c.nil.new.self c.args.environments.now
    c.map_on.new.code c.map_on.new.values c.map_on.new.environments (ready (goal.at.returns-in_err-map_on-clause-after c).In_ok-none) c.map_on.ensures.after

pub returns-in_err-none-clause-after : goal.returns-in_err-none-clause-after
returns-in_err-none-clause-after c = after_values c.args.code.now c.args.values.now c.nil.new.self c.args.environments.now c.requires.order c.nil.ensures.grows
