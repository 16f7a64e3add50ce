-- How a part of the command ends that reads the document.
use Rattle.std.specs.Prelude.{◌≡◌, Result, IfOk}
use Rattle.std.specs.declared.alloc.AllocError.{AllocError}
use Rattle.cd_base.specs.FilesState.{FilesState, FailsToRead}
use Rattle.cd_replies.specs.Bytes.{Bytes}
use Rattle.cd_replies.specs.Disk.{Disk, known_disk, unreadable_disk}
use Rattle.cd_replies.specs.Message.{reply_of}
use Rattle.cd_replies.specs.Reply.{Reply, cannot_read}
use Rattle.cd_replies.specs.declared.message.Message.{Message}

-- no read failed, or that of the document did, which is then said; and the message is such an
-- answer for the files that were encountered
pub data Finishes (answers : Disk → Reply → Type 0) (old new : FilesState) (document : Bytes)
    (result : Result Message AllocError) : Type 0 where
  granted : new ≡ old → IfOk result (λ message. answers (known_disk old) (reply_of message))
      → Finishes answers old new document result
  failed : FailsToRead old new document
      → IfOk result (λ message. reply_of message ≡ cannot_read document)
      → IfOk result (λ message. answers (unreadable_disk old document) (reply_of message))
      → Finishes answers old new document result
