use Rattle.std.proofs.Common.{arith, ◌∷◌, [], List, subst, sym, ap, ◌∙◌}
use Rattle.cd_model.specs.Thing.{Thing}
use Rattle.cd_program.specs.PlainExpr.{plain_branches}
use Rattle.cd_evaluation.specs.Runs as runs
use Rattle.cd_machine.specs.Inner.CodeIn.{code_in}
use Rattle.cd_machine.specs.Inner.Entries.{plain_choice}
use Rattle.cd_machine.specs.Inner.InOrder.{IsAfter}
use Rattle.cd_machine.specs.Inner.PlainFrame.{plain_turn, plain_frame, env_at, items_at, IsTurn}
use Rattle.cd_machine.specs.Inner.Resuming.{SiftsOn, entry_turn}
use Rattle.cd_machine.specs.Inner.Turn.{paid, give_to}
use Rattle.cd_machine.specs.declared.frame.Frame.TheVariants.{Joining}
use Rattle.cd_machine.specs.declared.outcome.Outcome.TheVariants.{Done}
use Rattle.cd_machine.proofs.Afterwards.{after_values, after_then}
use Rattle.cd_machine.proofs.EnteredTurns.{entered_or_is, entered_or_within}
use Rattle.cd_machine.proofs.ItemsMapped.{first_item}
use Rattle.cd_cells.proofs.GrownTables.{thing_grown, within_grown, further}
use Rattle.cd_machine.proofs.NodesAdded.{within}
use Rattle.cd_machine.proofs.transforms.sift_on.Goals as goal
use Rattle.cd_machine.proofs.transforms.sift_on.Goals.{In_ok-none-in-Some}

pub returns-in_ok-joined-in-None-clause-after : goal.returns-in_ok-joined-in-None-clause-after
returns-in_ok-joined-in-None-clause-after c = after_values c.args.code.now c.args.values.now c.joined.new.values c.args.environments.now c.requires.order
    (c.in_ok-joined-in-None.ensures {u = tt}).grows

-- the empty sequence is there
ready : (c : In_ok-none-in-Some) → IsAfter c.args.code.now c.args.values.now c.args.environments.now c.args.code.now c.nil.new.self c.args.environments.now
ready c = after_values c.args.code.now c.args.values.now c.nil.new.self c.args.environments.now c.requires.order (c.in_ok-none-in-Some.ensures {u = tt}).grows

pub choose-requires-clause-order : goal.choose-requires-clause-order
choose-requires-clause-order c = (ready (goal.at.choose-requires-clause-order c).In_ok-none-in-Some).in_order

-- the branch of the first item that is left, or no items
pub returns-in_ok-entry-in-Some-clause-sifts : goal.returns-in_ok-entry-in-Some-clause-sifts
returns-in_ok-entry-in-Some-clause-sifts c =
    let old = c.args.values.now in
    let middle = c.nil.new.self in
    let new = c.choose.new.values in
    let environments = c.choose.new.environments in
    let none = c.in_ok-none-in-Some.ensures {u = tt} in
    let chosen = c.in_ok-entry-in-Some.ensures {u = tt} in
    let turn = plain_turn new environments c.entered_or.result in
    let frame = Joining c.args.branches c.args.env c.args.done c.in-Some.rest in
    let choice = plain_choice new environments c.in_ok-entry-in-Some.entry in
    let pushed = plain_frame new environments frame ∷ [] in
    subst (λ (left : List Thing). SiftsOn (code_in c.args.code.now) (plain_branches c.args.branches.now) (env_at new environments c.args.env)
    (items_at new environments c.args.done) left turn)
    (sym (first_item old new (further old middle new none.grows chosen.after.grows) c.args.left.0 (c.in-Some.one, c.in-Some.rest) c.requires.left (c.in-Some.ensures {u = tt}))) (
      choice,
      chosen.chooses,
      ap (plain_turn new environments) c.entered_or.ensures
          ∙ entered_or_is new environments c.in_ok-entry-in-Some.entry frame (Done c.in_ok-none-in-Some.none)
          ∙ ap (λ (v : Thing). paid (entry_turn choice pushed (give_to pushed (runs.Done v))))
          (thing_grown middle new chosen.after.grows c.in_ok-none-in-Some.none.0 none.is.within ∙ none.is.is),
    )

pub returns-in_ok-entry-in-Some-clause-within : goal.returns-in_ok-entry-in-Some-clause-within
returns-in_ok-entry-in-Some-clause-within c =
    let old = c.args.values.now in
    let middle = c.nil.new.self in
    let new = c.choose.new.values in
    let none = c.in_ok-none-in-Some.ensures {u = tt} in
    let chosen = c.in_ok-entry-in-Some.ensures {u = tt} in
    let pair = c.in-Some.ensures {u = tt} in
    let grows = further old middle new none.grows chosen.after.grows in
    subst (IsTurn new c.choose.new.environments) (sym c.entered_or.ensures)
    (entered_or_within new c.choose.new.environments c.in_ok-entry-in-Some.entry (Joining c.args.branches c.args.env c.args.done c.in-Some.rest)
    (Done c.in_ok-none-in-Some.none) chosen.within (
      within c.args.environments.now c.choose.new.environments chosen.after.longer c.args.env.0 c.requires.env,
      within_grown old new grows c.args.done.0 c.requires.done,
      within_grown old new grows c.in-Some.rest.0 (omega (arith, pair.rest, c.requires.left)),
    ) (within_grown middle new chosen.after.grows c.in_ok-none-in-Some.none.0 none.is.within))

pub returns-in_ok-entry-in-Some-clause-after : goal.returns-in_ok-entry-in-Some-clause-after
returns-in_ok-entry-in-Some-clause-after c = after_then c.args.code.now c.args.values.now c.args.environments.now c.args.code.now c.nil.new.self c.args.environments.now
    c.choose.new.code c.choose.new.values c.choose.new.environments (ready (goal.at.returns-in_ok-entry-in-Some-clause-after c).In_ok-none-in-Some) c.choose.ensures.after

pub returns-in_err-entry-in-Some-clause-after : goal.returns-in_err-entry-in-Some-clause-after
returns-in_err-entry-in-Some-clause-after c = after_then c.args.code.now c.args.values.now c.args.environments.now c.args.code.now c.nil.new.self c.args.environments.now
    c.choose.new.code c.choose.new.values c.choose.new.environments (ready (goal.at.returns-in_err-entry-in-Some-clause-after c).In_ok-none-in-Some) c.choose.ensures.after

pub returns-in_err-none-in-Some-clause-after : goal.returns-in_err-none-in-Some-clause-after
returns-in_err-none-in-Some-clause-after c = after_values c.args.code.now c.args.values.now c.nil.new.self c.args.environments.now c.requires.order c.nil.ensures.grows

pub returns-in_err-joined-in-None-clause-after : goal.returns-in_err-joined-in-None-clause-after
returns-in_err-joined-in-None-clause-after c = after_values c.args.code.now c.args.values.now c.joined.new.values c.args.environments.now c.requires.order
    c.joined.ensures.grows
