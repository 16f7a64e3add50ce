-- What is said of a program with types on a document.
use Rattle.std.specs.Prelude.{ℕ}
use Rattle.cd_model.specs.Thing.{Thing}
use Rattle.cd_program.specs.Expr.{Program}
use Rattle.cd_replies.specs.Bytes.{Bytes}
use Rattle.cd_replies.specs.Disk.{Disk}
use Rattle.cd_replies.specs.Documents.{FileWrites}
use Rattle.cd_replies.specs.Reply.{Reply}
use Rattle.cd_running.specs.RunAnswer.{FileHasTyped, RunAnswer}

-- an answer of `run`, whatever file the program is that of
abbrev pub OnDocument : Program → (units : ℕ) → (document : Bytes) → Disk → Reply → Type 0
OnDocument program units document disk reply = (file : Bytes) → FileHasTyped disk file program
    → RunAnswer disk units file document reply

-- and where the document stands for this value
abbrev pub OnValue : Program → (units : ℕ) → (document : Bytes) → Thing → Reply → Type 0
OnValue program units document v reply = (disk : Disk) → FileWrites disk document v
    → OnDocument program units document disk reply
