use Rattle.std.proofs.Common.{◌∙◌, sym, subst}
use Rattle.cd_program.specs.PlainExpr.{plain_branches}
use Rattle.cd_cells.specs.Cells.{thing_at}
use Rattle.cd_cells.specs.Table.{table}
use Rattle.cd_evaluation.specs.Environment.{Env}
use Rattle.cd_machine.specs.Inner.CodeIn.{code_in}
use Rattle.cd_machine.specs.Inner.Entries.{plain_choice}
use Rattle.cd_machine.specs.Inner.Resuming.{Chooses}
use Rattle.cd_machine.proofs.Afterwards.{after_then}
use Rattle.cd_cells.proofs.GrownTables.{thing_grown, within_grown}
use Rattle.cd_machine.proofs.Staying.{env_stays}
use Rattle.cd_machine.proofs.NodesAdded.{within}
use Rattle.cd_machine.proofs.Applying.{name_stays}
use Rattle.cd_machine.proofs.call.enter_branches.Goals as goal

-- what stands around the name stays there
pub returns-clause-chooses : goal.returns-clause-chooses
returns-clause-chooses c =
    let old = c.args.values.now in
    let middle = c.with_own_name.new.values in
    let new = c.choose.new.values in
    let named = c.in_ok-env.ensures {u = tt} in
    let chosen = c.in_ok-entry.ensures {u = tt} in
    let function = within_grown old middle named.after.grows c.args.function.0.0 c.requires.function in
    let inner = within c.args.environments.now c.with_own_name.new.environments named.after.longer c.args.function.1.0 c.requires.inner in
    let stays = env_stays middle new chosen.after.grows c.with_own_name.new.environments c.choose.new.environments chosen.after.longer named.after.in_order.parts in
    subst (λ (env : Env). Chooses (code_in c.args.code.now) (plain_branches c.args.branches.now) (thing_at (table new) c.args.id.0) env
    (plain_choice new c.choose.new.environments c.in_ok-entry.entry))
    (stays c.in_ok-env.env named.within ∙ named.named
    ∙ name_stays c.args.name.now _ _ _ _ (sym (thing_grown middle new chosen.after.grows c.args.function.0.0 function)) (sym (stays c.args.function.1 inner))) chosen.chooses

pub returns-clause-after : goal.returns-clause-after
returns-clause-after c = after_then c.args.code.now c.args.values.now c.args.environments.now c.args.code.now c.with_own_name.new.values
    c.with_own_name.new.environments c.choose.new.code c.choose.new.values c.choose.new.environments c.with_own_name.ensures.after c.choose.ensures.after

pub returns-in_err-entry-clause-after : goal.returns-in_err-entry-clause-after
returns-in_err-entry-clause-after c = after_then c.args.code.now c.args.values.now c.args.environments.now c.args.code.now c.with_own_name.new.values
    c.with_own_name.new.environments c.choose.new.code c.choose.new.values c.choose.new.environments c.with_own_name.ensures.after c.choose.ensures.after
