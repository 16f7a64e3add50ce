use Rattle.std.proofs.lemmas.Result.{IfOk-weaker}
use Rattle.cd_cells.specs.Cells.{thing_at}
use Rattle.cd_cells.specs.Table.{table}
use Rattle.cd_machine.specs.PlainRan.{plain_ran}
use Rattle.cd_resolved.specs.Resolved.{program_of}
use Rattle.cd_replies.specs.Message.{reply_of}
use Rattle.cd_replies.specs.Reply.{not_input}
use Rattle.cd_replies.proofs.Messages.{replies}
use Rattle.cd_running.specs.Inner.OnDocument.{OnValue}
use Rattle.cd_running.proofs.RunsAnswered.{refused_answered, run_answered}
use Rattle.cd_running.proofs.SafeRuns.{not_stuck}
use Rattle.cd_running.proofs.of_value.Goals as goal

-- no run on a value that is taken is stuck
pub reported-requires-clause-goes : goal.reported-requires-clause-goes
reported-requires-clause-goes c =
    let program = program_of c.args.program in
    let found = c.typed_programs_have_main.ensures program c.requires.typed.typed c.requires.typed.reads.sound c.requires.resolved.places_differ in
    let runs = rw c.in-Some.is at c.in_ok-run_on.ensures.runs in
    not_stuck program found.0 (thing_at (table c.args.values.now) c.args.value.0) c.args.units (plain_ran (table c.run_on.new.values) c.in-Some.ran)
    (runs found.0 found.1)

-- the program does not take the value
pub returns-in-None : goal.returns-in-None
returns-in-None c =
    let program = program_of c.args.program in
    let v = thing_at (table c.args.values.now) c.args.value.0 in
    let found = c.typed_programs_have_main.ensures program c.requires.typed.typed c.requires.typed.reads.sound c.requires.resolved.places_differ in
    let outside = rw c.in-None.is at c.in_ok-run_on.ensures.runs in
    replies c.not_input.result (not_input c.args.document.now) (OnValue program c.args.units c.args.document.now v) c.not_input.ensures
    (refused_answered program found.0 found.1 v c.args.units c.args.document.now (outside found.0 found.1))

-- or what a run comes to is reported
pub returns-in-Some : goal.returns-in-Some
returns-in-Some c =
    let program = program_of c.args.program in
    let v = thing_at (table c.args.values.now) c.args.value.0 in
    let found = c.typed_programs_have_main.ensures program c.requires.typed.typed c.requires.typed.reads.sound c.requires.resolved.places_differ in
    let result = plain_ran (table c.run_on.new.values) c.in-Some.ran in
    let runs = rw c.in-Some.is at c.in_ok-run_on.ensures.runs in
    IfOk-weaker c.reported.result _ _ (λ message reports.
    run_answered program found.0 found.1 v c.args.units c.args.document.now result (runs found.0 found.1) (reply_of message) reports) c.reported.ensures
