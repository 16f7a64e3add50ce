use Rattle.std.proofs.Common.{ap, ◌∙◌, sym, subst}
use Rattle.cd_syntax.specs.PlainTree.{plain as plain_tree}
use Rattle.cd_model.specs.Thing.{Thing}
use Rattle.cd_program.specs.PlainExpr.{plain}
use Rattle.cd_machine.specs.Inner.CodeIn.{code_in}
use Rattle.cd_machine.specs.Inner.Entries.{plain_choice}
use Rattle.cd_machine.specs.Inner.PlainFrame.{plain_turn, env_at}
use Rattle.cd_machine.specs.Inner.Resuming.{LetsIn}
use Rattle.cd_machine.specs.declared.outcome.Outcome.TheVariants.{Stuck}
use Rattle.cd_machine.proofs.EnteredTurns.{entered_alone}
use Rattle.cd_cells.proofs.GrownTables.{thing_grown}
use Rattle.cd_machine.proofs.taking.take_let.Goals as goal

-- the value stays what it was
pub returns-clause-enters : goal.returns-clause-enters
returns-clause-enters c =
    let old = c.args.values.now in
    let new = c.let_in.new.values in
    let environments = c.let_in.new.environments in
    let let_in = c.in_ok-entry.ensures {u = tt} in (
      plain_choice new environments c.in_ok-entry.entry,
      subst (λ (v : Thing). LetsIn (code_in c.args.code.now) (plain_tree c.args.pattern.now) (plain c.args.rest.now) (env_at new environments c.args.env) v
          (plain_choice new environments c.in_ok-entry.entry)) (sym (thing_grown old new let_in.after.grows c.args.id.0 c.requires.value)) let_in.lets,
      ap (plain_turn new environments) c.entered.ensures ∙ entered_alone new environments c.in_ok-entry.entry Stuck,
    )
