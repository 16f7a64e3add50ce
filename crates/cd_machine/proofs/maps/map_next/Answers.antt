use Rattle.std.proofs.Common.{List, subst}
use Rattle.cd_model.specs.Thing.{Thing, Pair}
use Rattle.cd_program.specs.PlainExpr.{plain_branches}
use Rattle.cd_cells.specs.Cells.{thing_at}
use Rattle.cd_cells.specs.Table.{table}
use Rattle.cd_cells.proofs.TableGrows.{last_at}
use Rattle.cd_machine.specs.Inner.CodeIn.{code_in}
use Rattle.cd_machine.specs.Inner.InOrder.{IsAfter}
use Rattle.cd_machine.specs.Inner.PlainFrame.{plain_turn, env_at, items_at}
use Rattle.cd_machine.specs.Inner.Resuming.{MapsOn}
use Rattle.cd_machine.proofs.Afterwards.{after_then, after_values}
use Rattle.cd_machine.proofs.ItemsMapped.{item_before}
use Rattle.cd_machine.proofs.maps.map_next.Goals as goal
use Rattle.cd_machine.proofs.maps.map_next.Goals.{In_ok-done}

-- the result stands before those that are done
ready : (c : In_ok-done) → IsAfter c.args.code.now c.args.values.now c.args.environments.now c.args.code.now c.pair.new.self c.args.environments.now
ready c = after_values c.args.code.now c.args.values.now c.pair.new.self c.args.environments.now c.requires.order (c.in_ok-done.ensures {u = tt}).grows

pub map_on-requires-clause-order : goal.map_on-requires-clause-order
map_on-requires-clause-order c = (ready (goal.at.map_on-requires-clause-order c).In_ok-done).in_order

pub returns-clause-maps : goal.returns-clause-maps
returns-clause-maps c =
    let old = c.args.values.now in
    let middle = c.pair.new.self in
    let new = c.map_on.new.values in
    let environments = c.map_on.new.environments in
    let pair = c.in_ok-done.ensures {u = tt} in
    let next = c.in_ok-map_on.ensures {u = tt} in
    let done = c.in_ok-done.done.0 in
    let at = last_at (table old) (table middle) done (Pair (thing_at (table old) c.args.id.0) (thing_at (table old) c.args.parts.0.0)) pair.added pair.number in
    subst (λ (done : List Thing). MapsOn (code_in c.args.code.now) (plain_branches c.args.branches.now) (env_at new environments c.args.env) done
    (items_at new environments c.args.parts.1) (plain_turn new environments c.in_ok-map_on.field-0))
    (item_before old middle new pair.grows next.after.grows c.args.id.0 c.args.parts.0.0 done c.requires.value c.requires.done at) next.maps

pub returns-clause-after : goal.returns-clause-after
returns-clause-after c = after_then c.args.code.now c.args.values.now c.args.environments.now c.args.code.now c.pair.new.self c.args.environments.now
    c.map_on.new.code c.map_on.new.values c.map_on.new.environments (ready (goal.at.returns-clause-after c).In_ok-done) c.map_on.ensures.after

pub returns-in_err-map_on-clause-after : goal.returns-in_err-map_on-clause-after
returns-in_err-map_on-clause-after c = after_then c.args.code.now c.args.values.now c.args.environments.now c.args.code.now c.pair.new.self c.args.environments.now
    c.map_on.new.code c.map_on.new.values c.map_on.new.environments (ready (goal.at.returns-in_err-map_on-clause-after c).In_ok-done) c.map_on.ensures.after

pub returns-in_err-done-clause-after : goal.returns-in_err-done-clause-after
returns-in_err-done-clause-after c = after_values c.args.code.now c.args.values.now c.pair.new.self c.args.environments.now c.requires.order c.pair.ensures.grows
