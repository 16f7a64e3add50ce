use Rattle.std.proofs.Common.{◌≡◌, ◌++◌, List, ap, ◌∙◌, sym}
use Rattle.cd_model.specs.Thing.{Thing, Closure}
use Rattle.cd_cells.specs.Table.{table}
use Rattle.cd_cells.specs.declared.cell.Part.{Part}
use Rattle.cd_cells.proofs.TableGrows.{last_at}
use Rattle.cd_evaluation.specs.Runs.{Done}
use Rattle.cd_code.specs.Compiled.{env_of}
use Rattle.cd_machine.specs.Inner.Nodes.{parts_at}
use Rattle.cd_machine.specs.Inner.PlainFrame.{plain_turn}
use Rattle.cd_machine.specs.Inner.Turn.{give}
use Rattle.cd_machine.proofs.NodesAdded.{longer_same}
use Rattle.cd_machine.proofs.Staying.{env_stays}
use Rattle.cd_machine.proofs.enter.enter_function.Goals as goal

-- the closure sees the names of the environment, which stays what it is
pub returns-clause-next : goal.returns-clause-next
returns-clause-next c =
    let environments = c.args.environments.now in
    let old = c.args.values.now in
    let new = c.closure.new.self in
    let env = parts_at environments c.args.env.0 in
    let parts : c.as_slice.result.now ≡ env = c.as_slice.ensures.value ∙ c.in_ok-put_parts.ensures {u = tt}
    ∙ ap (λ (before : List Part). before ++ env) c.clear.ensures.items in
    let is = (last_at (table old) (table new) c.in_ok-closure.field-0.0 (Closure c.args.at (env_of old c.as_slice.result.now))
    (c.in_ok-closure.ensures {u = tt}).added (c.in_ok-closure.ensures {u = tt}).number).is in
    let stays = env_stays old new (c.in_ok-closure.ensures {u = tt}).grows environments environments (longer_same environments) c.requires.sound c.args.env c.requires.env in
    ap (plain_turn new environments) c.give.ensures
    ∙ ap (λ (v : Thing). give (Done v)) (is ∙ ap (λ (parts : List Part). Closure c.args.at (env_of old parts)) parts ∙ ap (Closure c.args.at) (sym stays))
