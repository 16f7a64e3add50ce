use Rattle.std.proofs.Common.{arith, List, subst, sym, ap, ◌∙◌}
use Rattle.cd_model.specs.Thing.{Thing}
use Rattle.cd_program.specs.PlainExpr.{plain_branches}
use Rattle.cd_machine.specs.Inner.CodeIn.{code_in}
use Rattle.cd_machine.specs.Inner.Entries.{plain_choice}
use Rattle.cd_machine.specs.Inner.PlainFrame.{plain_turn, env_at, items_at, IsTurn}
use Rattle.cd_machine.specs.Inner.Resuming.{MapsOn}
use Rattle.cd_machine.specs.declared.frame.Frame.TheVariants.{Mapping}
use Rattle.cd_machine.specs.declared.outcome.Outcome.TheVariants.{Stuck}
use Rattle.cd_machine.proofs.Afterwards.{after_values}
use Rattle.cd_machine.proofs.EnteredTurns.{entered_is, entered_within}
use Rattle.cd_machine.proofs.ItemsMapped.{first_item}
use Rattle.cd_cells.proofs.GrownTables.{within_grown}
use Rattle.cd_machine.proofs.NodesAdded.{within}
use Rattle.cd_machine.proofs.maps.map_on.Goals as goal

-- the branch of the first item that is left
pub returns-in_ok-entry-in-Some-clause-maps : goal.returns-in_ok-entry-in-Some-clause-maps
returns-in_ok-entry-in-Some-clause-maps c =
    let old = c.args.values.now in
    let new = c.choose.new.values in
    let environments = c.choose.new.environments in
    let chosen = c.in_ok-entry-in-Some.ensures {u = tt} in
    let turn = plain_turn new environments c.entered.result in
    subst (λ (left : List Thing). MapsOn (code_in c.args.code.now) (plain_branches c.args.branches.now) (env_at new environments c.args.env)
    (items_at new environments c.args.done) left turn)
    (sym (first_item old new chosen.after.grows c.args.left.0 (c.in-Some.one, c.in-Some.rest) c.requires.left (c.in-Some.ensures {u = tt}))) (
      plain_choice new environments c.in_ok-entry-in-Some.entry,
      chosen.chooses,
      ap (plain_turn new environments) c.entered.ensures
          ∙ entered_is new environments c.in_ok-entry-in-Some.entry (Mapping c.args.branches c.args.env c.args.done c.in-Some.rest) Stuck,
    )

pub returns-in_ok-entry-in-Some-clause-within : goal.returns-in_ok-entry-in-Some-clause-within
returns-in_ok-entry-in-Some-clause-within c =
    let old = c.args.values.now in
    let new = c.choose.new.values in
    let chosen = c.in_ok-entry-in-Some.ensures {u = tt} in
    let pair = c.in-Some.ensures {u = tt} in
    subst (IsTurn new c.choose.new.environments) (sym c.entered.ensures)
    (entered_within new c.choose.new.environments c.in_ok-entry-in-Some.entry (Mapping c.args.branches c.args.env c.args.done c.in-Some.rest) Stuck chosen.within (
      within c.args.environments.now c.choose.new.environments chosen.after.longer c.args.env.0 c.requires.env,
      within_grown old new chosen.after.grows c.args.done.0 c.requires.done,
      within_grown old new chosen.after.grows c.in-Some.rest.0 (omega (arith, pair.rest, c.requires.left)),
    ) tt)

pub returns-in_ok-in_order-in-None-clause-after : goal.returns-in_ok-in_order-in-None-clause-after
returns-in_ok-in_order-in-None-clause-after c = after_values c.args.code.now c.args.values.now c.in_order.new.values c.args.environments.now c.requires.order
    (c.in_ok-in_order-in-None.ensures {u = tt}).grows

pub returns-in_err-in_order-in-None-clause-after : goal.returns-in_err-in_order-in-None-clause-after
returns-in_err-in_order-in-None-clause-after c = after_values c.args.code.now c.args.values.now c.in_order.new.values c.args.environments.now c.requires.order
    c.in_order.ensures.grows
