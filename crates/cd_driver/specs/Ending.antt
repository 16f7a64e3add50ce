-- How a call ends, whatever the files and sinks do.
use Rattle.std.specs.Prelude.{◌≡◌, ◌≢◌, List, []}
use Rattle.cd_base.specs.declared.status.Status.{Status}
use Rattle.cd_base.specs.declared.status.Status.TheVariants.{WriteFault, NoMemory}
use Rattle.cd_base.specs.SinkState.{Puts, PutsPrefix, FailsToPut}
use Rattle.cd_replies.specs.Bytes.{Bytes}
use Rattle.cd_replies.specs.Reply.{Reply}
use Rattle.cd_driver.specs.Outside.{Outside}
use Rattle.cd_replies.specs.Disk.{Disk, Encountered}
use Rattle.cd_driver.specs.Answer.{Answer}

-- the ways to deliver a reply to the sinks, and the status that each ends with
pub data Delivered (before after : Outside) (reply : Reply) : Status → Type 0 where
  -- both texts were written whole
  whole : Puts before.out after.out reply.out → Puts before.err after.err reply.err
      → Delivered before after reply reply.status
  -- a sink refused its text and has a prefix of it, and its count of faults rose; the other sink is
  -- as it was
  out_refused : reply.out ≢ [] → FailsToPut before.out after.out reply.out → after.err ≡ before.err
      → Delivered before after reply WriteFault
  err_refused : reply.err ≢ [] → FailsToPut before.err after.err reply.err → after.out ≡ before.out
      → Delivered before after reply WriteFault
  -- memory ran out at a sink, which has a prefix of its text; the other sink is as it was
  out_cut : reply.out ≢ [] → PutsPrefix before.out after.out reply.out → after.err ≡ before.err
      → Delivered before after reply NoMemory
  err_cut : reply.err ≢ [] → PutsPrefix before.err after.err reply.err → after.out ≡ before.out
      → Delivered before after reply NoMemory

-- the ways that a call on these words ends
pub data Ending (words : List Bytes) (disk : Disk) (before after : Outside) : Status → Type 0 where
  -- an answer to the words was delivered, or a prefix of it
  answered : (reply : Reply) → Answer words disk reply → (status : Status)
      → Delivered before after reply status
      → Ending words disk before after status
  -- memory ran out before anything was written
  no_memory : after.out ≡ before.out → after.err ≡ before.err
      → Ending words disk before after NoMemory

-- whatever faults came, the call ended in one of these ways, for the files that it encountered
pub record Completes (words : List Bytes) (before after : Outside) (status : Status) : Type 0 where
  pub disk : Disk
  pub encountered : Encountered before.files after.files disk
  pub ending : Ending words disk before after status
