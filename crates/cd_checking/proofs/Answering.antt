-- Messages that give an answer.
use Rattle.std.proofs.Common.{◌≡◌, Result, Ok, Err}
use Rattle.std.specs.Prelude.{IfOk, String, string_bytes}
use Rattle.std.specs.Global.{Global}
use Rattle.std.specs.declared.alloc.AllocError.{AllocError}
use Rattle.cd_base.specs.FilesState.{FilesState}
use Rattle.cd_replies.specs.Bytes.{Bytes}
use Rattle.cd_replies.specs.Reply.{Reply, cannot_read}
use Rattle.cd_replies.specs.Texts.{RefusesProgram}
use Rattle.cd_replies.specs.Disk.{Disk, HasText, unreadable, known_disk, unreadable_disk}
use Rattle.cd_replies.specs.File.{IsFileRead, IsSaidOfFile, said_of}
use Rattle.cd_replies.specs.Message.{IsAnswer, reply_of}
use Rattle.cd_replies.specs.declared.file.FileError.{FileError}
use Rattle.cd_replies.specs.declared.file.FileError.TheVariants.{Fault, Memory}
use Rattle.cd_replies.specs.declared.message.Message.{Message}
use Rattle.cd_replies.proofs.Messages.{replies, nothing_said}
use Rattle.cd_replies.proofs.FilesEncountered.{has_text, encountered_same, FaultMet, failed, granted, fault_encountered}
use Rattle.cd_checking.specs.CheckAnswer.{CheckAnswer, file_refused}

-- what is said of a file that has no text is an answer
answers_encountered : (old new : FilesState) (name : Bytes) (reply : Reply) → FaultMet RefusesProgram old new name reply
    → (r : Result Message AllocError) → IfOk r (λ message. reply_of message ≡ reply)
    → IsAnswer (λ disk. CheckAnswer disk name) old new r
answers_encountered old new name _ (failed is refusal) r said = (
  unreadable_disk old name,
  unreadable name is.rose is.last,
  replies r (cannot_read name) (CheckAnswer (unreadable_disk old name) name) said (file_refused (cannot_read name) refusal),
)
answers_encountered old new name _ (granted same reply refusal) r said = (
  known_disk old,
  encountered_same old new same,
  replies r reply (CheckAnswer (known_disk old) name) said (file_refused reply refusal),
)

pub answers_error : (old new : FilesState) (name : Bytes) (error : FileError) → IsFileRead old new name (Err error)
    → (r : Result Message AllocError) → IfOk r (λ message. IsSaidOfFile name error (reply_of message))
    → IsAnswer (λ disk. CheckAnswer disk name) old new r
answers_error old new name (Fault fault) is r said =
    answers_encountered old new name (said_of name fault) (fault_encountered RefusesProgram old new name fault is) r said
answers_error old new name Memory is r said = (known_disk old, encountered_same old new is, nothing_said r (CheckAnswer (known_disk old) name) said)

-- and so is what is said where it has one
pub answers_text : (old new : FilesState) (name : Bytes) (text : String Global) → IsFileRead old new name (Ok text)
    → (r : Result Message AllocError)
    → IfOk r
    (λ message. (disk : Disk) → HasText disk name (string_bytes text) → CheckAnswer disk name (reply_of message))
    → IsAnswer (λ disk. CheckAnswer disk name) old new r
answers_text old new name text is (Ok message) said = (
  known_disk old,
  encountered_same old new is.0,
  said (known_disk old) (has_text old new name text is),
)
answers_text old new name text is (Err error) said = (known_disk old, encountered_same old new is.0, tt)
