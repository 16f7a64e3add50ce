use Rattle.std.proofs.Common.{◌≡◌, Option, None, ap, ◌∙◌, sym}
use Rattle.std.proofs.lemmas.Result.{IfOk-weaker}
use Rattle.cd_model.specs.Thing.{Thing}
use Rattle.cd_rules.specs.InRow as row
use Rattle.cd_matching.specs.Captures.{or_else}
use Rattle.cd_evaluation.specs.Code.{declared_value}
use Rattle.cd_machine.specs.Inner.CodeIn.{code_in}
use Rattle.cd_evaluation.specs.Runs.{found}
use Rattle.cd_machine.specs.Inner.PlainFrame.{env_at}
use Rattle.cd_machine.specs.Inner.Turn.{give}
use Rattle.cd_machine.proofs.NodesAdded.{longer_same}
use Rattle.cd_machine.proofs.Staying.{env_stays}
use Rattle.cd_machine.proofs.enter.enter_variable.Goals as goal

-- the environment has no such name, and it stays what it is
pub returns-in-None-clause-next : goal.returns-in-None-clause-next
returns-in-None-clause-next c =
    let environments = c.args.environments.now in
    let name = c.args.name.now in
    let later = c.enter_declared.new.values in
    let stays = env_stays c.args.values.now later c.enter_declared.ensures.grows environments environments (longer_same environments)
    c.requires.sound c.args.env c.requires.env in
    let none : row.thing_at (env_at later environments c.args.env) name ≡ None =
    ap (λ env. row.thing_at env name) stays ∙ ap (row.thing_at (env_at c.args.values.now environments c.args.env)) (sym c.as_str.ensures) ∙ sym c.in-None.ensures.found in
    IfOk-weaker c.enter_declared.result _ _ (λ turn next. next environments ∙ ap (λ (value : Option Thing).
    give (found (or_else value (declared_value (code_in c.args.code.now) name)))) (sym none)) c.enter_declared.ensures.next
