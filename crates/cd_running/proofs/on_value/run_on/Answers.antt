use Rattle.std.proofs.Common.{subst}
use Rattle.std.specs.Str.{chars}
use Rattle.cd_cells.specs.Cells.{thing_at}
use Rattle.cd_cells.specs.Table.{table}
use Rattle.cd_resolved.specs.Resolved.{program_of}
use Rattle.cd_running.specs.Inner.Inputs.{AnswersAsInput}
use Rattle.cd_running.proofs.Characters.{characters_scalar}
use Rattle.cd_running.proofs.SafeRuns.{safe_on}
use Rattle.cd_running.proofs.on_value.run_on.Goals as goal

-- the value is of the input, so it is run
pub returns-in_ok-ran-clause-runs : goal.returns-in_ok-ran-clause-runs
returns-in_ok-ran-clause-runs c main is =
    let program = program_of c.args.program in
    let v = thing_at (table c.args.values.now) c.args.value.0 in
    let typed = c.requires.typed in
    let safe = c.written_programs_are_safe.ensures (chars typed.text) typed.reads.tokens 1000 program (characters_scalar typed.text typed.utf8)
    typed.reads.spelled typed.reads.written typed.typed typed.reads.sound in record {
      input = subst (AnswersAsInput program main v) c.if-branch.true (c.in_ok-is_input.ensures main is);
      safe = safe_on program safe v c.requires.document main is;
      comes = c.in_ok-ran.ensures.comes main is;
    }

-- or it is not
pub returns-else-branch-clause-runs : goal.returns-else-branch-clause-runs
returns-else-branch-clause-runs c main is =
    subst (AnswersAsInput (program_of c.args.program) main (thing_at (table c.args.values.now) c.args.value.0)) c.if-branch.false
    (c.in_ok-is_input.ensures main is)
