use Rattle.cd_replies.specs.Texts.{RefusesProgram}
use Rattle.cd_replies.proofs.TwoFiles.{no_file, answers_on}
use Rattle.cd_running.proofs.FileRefused.{Answers, is_refused}
use Rattle.cd_running.proofs.run.Goals as goal

pub returns-in-Ok-clause-answer : goal.returns-in-Ok-clause-answer
returns-in-Ok-clause-answer g c =
    answers_on RefusesProgram (Answers c.args.units c.args.document.now) (is_refused c.args.units c.args.document.now)
    c.args.file.now c.args.document.now _ _ _ c.in-Ok.text (rw c.in-Ok.is at c.read_file.ensures) c.with_file.result
    (rw c.as_str.ensures.value at c.with_file.ensures)

pub returns-in-Err-clause-answer : goal.returns-in-Err-clause-answer
returns-in-Err-clause-answer g c =
    no_file RefusesProgram (Answers c.args.units c.args.document.now) (is_refused c.args.units c.args.document.now)
    c.args.file.now c.args.document.now _ _ c.in-Err.error (rw c.in-Err.is at c.read_file.ensures) c.no_text.result c.no_text.ensures
