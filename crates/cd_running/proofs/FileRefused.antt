-- What refuses the file of the program is an answer.
use Rattle.std.proofs.Common.{ℕ}
use Rattle.cd_replies.specs.Bytes.{Bytes}
use Rattle.cd_replies.specs.Disk.{Disk, FileRefusal}
use Rattle.cd_replies.specs.Reply.{Reply}
use Rattle.cd_replies.specs.Texts.{RefusesProgram}
use Rattle.cd_running.specs.RunAnswer.{RunAnswer, file_refused}

abbrev pub Answers : (units : ℕ) (document : Bytes) → (file : Bytes) → Disk → Reply → Type 0
Answers units document file disk reply = RunAnswer disk units file document reply

pub is_refused : (units : ℕ) (document : Bytes) (file : Bytes) (disk : Disk) (reply : Reply) → FileRefusal RefusesProgram disk file reply
    → Answers units document file disk reply
is_refused units document file disk reply refusal = file_refused reply refusal
