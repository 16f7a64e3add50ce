use Rattle.cd_program.specs.PlainProgram.{plain_program}
use Rattle.cd_replies.specs.Reply.{refusal}
use Rattle.cd_replies.specs.Disk.{Disk, HasText, refused}
use Rattle.cd_replies.specs.Texts.{RefusesProgram}
use Rattle.cd_replies.proofs.Messages.{refusal_replies}
use Rattle.cd_checking.specs.CheckAnswer.{CheckAnswer, file_refused}
use Rattle.cd_checking.proofs.Programs.{answers_program}
use Rattle.cd_checking.proofs.of_text.Goals as goal

-- the text reads as a program
pub returns-in-Ok : goal.returns-in-Ok
returns-in-Ok c =
    answers_program c.args.file.now c.args.text.now (plain_program c.in-Ok.program) c.in-Ok.ensures.read c.of_program.result c.of_program.ensures

-- or it is refused
pub returns-in-Err : goal.returns-in-Err
returns-in-Err c =
    let file = c.args.file.now in
    let text = c.args.text.now in
    refusal_replies c.refused.result file text c.in-Err.error (RefusesProgram text)
    (λ reply. (disk : Disk) → HasText disk file text → CheckAnswer disk file reply) c.refused.ensures c.in-Err.ensures.refused
    (λ found stands disk has. file_refused (refusal file text found) (refused text has found stands))
