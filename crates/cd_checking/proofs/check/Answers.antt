use Rattle.cd_checking.proofs.Answering.{answers_error, answers_text}
use Rattle.cd_checking.proofs.check.Goals as goal

pub returns-in-Ok-clause-answer : goal.returns-in-Ok-clause-answer
returns-in-Ok-clause-answer g c =
    answers_text _ _ c.args.file.now c.in-Ok.text (rw c.in-Ok.is at c.read_file.ensures) c.of_text.result
    (rw c.as_str.ensures.value at c.of_text.ensures)

pub returns-in-Err-clause-answer : goal.returns-in-Err-clause-answer
returns-in-Err-clause-answer g c =
    answers_error _ _ c.args.file.now c.in-Err.error (rw c.in-Err.is at c.read_file.ensures) c.no_text.result c.no_text.ensures
