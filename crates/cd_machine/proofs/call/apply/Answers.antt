use Rattle.std.proofs.Common.{arith, ap, ◌∙◌, sym}
use Rattle.cd_program.specs.PlainExpr.{plain_function}
use Rattle.cd_cells.specs.Cells.{thing_at}
use Rattle.cd_cells.specs.Table.{table}
use Rattle.cd_code.specs.Compiled.{env_of, ArePartsOf}
use Rattle.cd_machine.specs.Inner.CodeIn.{code_in}
use Rattle.cd_machine.specs.Inner.Entries.{plain_choice}
use Rattle.cd_machine.specs.Inner.PlainFrame.{env_at}
use Rattle.cd_machine.proofs.Afterwards.{after_then, after_environments}
use Rattle.cd_machine.proofs.Applying.{no_tree, by_tree}
use Rattle.cd_cells.proofs.GrownTables.{thing_grown, itself}
use Rattle.cd_machine.proofs.Staying.{env_stays, parts_below}
use Rattle.cd_machine.proofs.call.apply.Goals as goal
use Rattle.cd_machine.proofs.call.apply.Goals.{In-Closure}

pub returns-in_default-tree_at-clause-enters : goal.returns-in_default-tree_at-clause-enters
returns-in_default-tree_at-clause-enters c = no_tree (code_in c.args.code.now) c.in-Closure.at (env_of c.args.values.now c.in-Closure.parts.now)
    (thing_at (table c.args.values.now) c.args.function.0) (thing_at (table c.args.values.now) c.args.id.0) (c.in-Closure.ensures {u = tt}).thing
    (c.in_default-tree_at.ensures {u = tt})

pub enter_function-requires-clause-known : goal.enter_function-requires-clause-known
enter_function-requires-clause-known c = c.requires.known c.in-Closure.at (plain_function c.in-Some.tree.now) (sym (c.in-Some.ensures {u = tt}))

-- the function sees names and values of the table
closure_parts : (c : In-Closure) → ArePartsOf c.args.values.now c.in-Closure.parts.now
closure_parts c = parts_below c.args.values.now c.args.values.now (itself c.args.values.now) c.args.function.0 c.in-Closure.parts.now (omega (arith, c.requires.function))
    (c.in-Closure.ensures {u = tt}).below

pub enter_function-requires-clause-order : goal.enter_function-requires-clause-order
enter_function-requires-clause-order c = record {
  ready = c.requires.order.ready;
  parts = c.of_parts.ensures.each c.args.values.now c.requires.order.parts (closure_parts (goal.at.enter_function-requires-clause-order c).In-Closure);
}

pub returns-clause-enters : goal.returns-clause-enters
returns-clause-enters c =
    let old = c.args.values.now in
    let new = c.enter_function.new.values in
    let inner = c.in_ok-inner.ensures {u = tt} in
    let entered = c.in_ok-entry.ensures {u = tt} in
    let each = c.of_parts.ensures.each old c.requires.order.parts (closure_parts (goal.at.returns-clause-enters c).In-Closure) in
    by_tree (code_in c.args.code.now) c.in-Closure.at (env_of old c.in-Closure.parts.now) (thing_at (table new) c.args.function.0) (thing_at (table new) c.args.id.0)
    ((c.in-Closure.ensures {u = tt}).thing ∙ sym (thing_grown old new entered.after.grows c.args.function.0 c.requires.function))
    (plain_function c.in-Some.tree.now) (env_at new c.enter_function.new.environments c.in_ok-inner.inner)
    (plain_choice new c.enter_function.new.environments c.in_ok-entry.entry) (c.in-Some.ensures {u = tt})
    (env_stays old new entered.after.grows c.of_parts.new.self c.enter_function.new.environments entered.after.longer each c.in_ok-inner.inner inner.within
    ∙ ap (env_of old) inner.is) entered.enters

-- the branches were tried after that
pub returns-clause-after : goal.returns-clause-after
returns-clause-after c =
    let environments = c.args.environments.now in
    let each = c.of_parts.ensures.each c.args.values.now c.requires.order.parts (closure_parts (goal.at.returns-clause-after c).In-Closure) in
    after_then c.args.code.now c.args.values.now environments c.args.code.now c.args.values.now c.of_parts.new.self c.enter_function.new.code
    c.enter_function.new.values c.enter_function.new.environments
    (after_environments c.args.code.now c.args.values.now environments c.of_parts.new.self c.requires.order c.of_parts.ensures.grows each) c.enter_function.ensures.after

pub returns-in_err-entry-clause-after : goal.returns-in_err-entry-clause-after
returns-in_err-entry-clause-after c =
    let environments = c.args.environments.now in
    let each = c.of_parts.ensures.each c.args.values.now c.requires.order.parts (closure_parts (goal.at.returns-in_err-entry-clause-after c).In-Closure) in
    after_then c.args.code.now c.args.values.now environments c.args.code.now c.args.values.now c.of_parts.new.self c.enter_function.new.code
    c.enter_function.new.values c.enter_function.new.environments
    (after_environments c.args.code.now c.args.values.now environments c.of_parts.new.self c.requires.order c.of_parts.ensures.grows each) c.enter_function.ensures.after

pub returns-in_err-inner-clause-after : goal.returns-in_err-inner-clause-after
returns-in_err-inner-clause-after c = after_environments c.args.code.now c.args.values.now c.args.environments.now c.of_parts.new.self c.requires.order
    c.of_parts.ensures.grows (c.of_parts.ensures.each c.args.values.now c.requires.order.parts (closure_parts (goal.at.returns-in_err-inner-clause-after c).In-Closure))
