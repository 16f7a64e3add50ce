-- The theorem about the whole program.
use Rattle.std.specs.Prelude.{◌≡◌, List, None, ◌⊎◌}
use Rattle.std.specs.Io.KnownBytes.{Appends}
use Rattle.cd_base.specs.declared.status.Status.{Status}
use Rattle.cd_base.specs.declared.status.Status.TheVariants.{NoMemory}
use Rattle.cd_base.specs.Faults.{Rose}
use Rattle.cd_replies.specs.Bytes.{Bytes}
use Rattle.cd_replies.specs.Reply.{Reply}
use Rattle.cd_driver.specs.Outside.{Outside}
use Rattle.cd_replies.specs.Disk.{Disk}
use Rattle.cd_driver.specs.Answer.{Answer}

-- no count of faults rose
pub record NothingFailed (before after : Outside) : Type 0 where
  pub files : Rose before.files.faults after.files.faults → ⊥
  pub out : Rose before.out.faults after.out.faults → ⊥
  pub err : Rose before.err.faults after.err.faults → ⊥

-- the files as they are known, none of them unreadable
abbrev pub known_files : Outside → Disk
known_files before = record { known = before.files.known; unreadable = None }

-- the status and the bytes that were appended are an answer to the words
pub record IsAnswered (words : List Bytes) (before after : Outside) (status : Status) : Type 0 where
  pub reply : Reply
  pub answer : Answer words (known_files before) reply
  pub status_is : status ≡ reply.status
  pub out : Appends before.out.known after.out.known reply.out
  pub err : Appends before.err.known after.err.known reply.err

-- where no read and no write failed, the words are answered, memory aside
abbrev pub Headline : List Bytes → Outside → Outside → Status → Type 0
Headline words before after status =
    NothingFailed before after → (status ≡ NoMemory) ⊎ IsAnswered words before after status
