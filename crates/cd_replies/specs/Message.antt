-- Messages, which are the replies of the code, and what they answer.
use Rattle.std.specs.Prelude.{◌≡◌, [], if◌then◌else◌, Result, IfOk, string_bytes}
use Rattle.std.specs.declared.alloc.AllocError.{AllocError}
use Rattle.cd_base.specs.FilesState.{FilesState}
use Rattle.cd_replies.specs.Bytes.{Bytes}
use Rattle.cd_replies.specs.Disk.{Disk, Encountered}
use Rattle.cd_replies.specs.Reply.{Reply, refusal}
use Rattle.cd_replies.specs.declared.message.Message.{Message}
use Rattle.cd_replies.specs.declared.refusal.RefusalError.{RefusalError}
use Rattle.cd_replies.specs.declared.refusal.RefusalError.TheVariants.{Refused, Memory}

-- the reply that a message is
abbrev pub reply_of : Message → Reply
reply_of message =
    if message.on_output then record {
      status = message.status;
      out = string_bytes message.text;
      err = [];
    }
    else record { status = message.status; out = []; err = string_bytes message.text }

-- what is said of a text that was not read; of want of memory nothing is
abbrev pub IsSaidOfText : (origin text : Bytes) → RefusalError → Reply → Type 0
IsSaidOfText origin text (Refused found) reply = reply ≡ refusal origin text found
IsSaidOfText origin text Memory reply = ⊥

-- the message is such an answer for files that were encountered
abbrev pub IsAnswer : (Disk → Reply → Type 0) → (old new : FilesState) → Result Message AllocError
    → Type 0
IsAnswer answers old new result = (disk : Disk) × Encountered old new disk
    × IfOk result (λ message. answers disk (reply_of message))
