-- When each status comes, whatever the files and sinks do.
use Rattle.std.specs.Prelude.{◌≡◌, ◌≢◌, List, [], ◌⊎◌}
use Rattle.cd_base.specs.declared.status.Status.{Status}
use Rattle.cd_base.specs.declared.status.Status.TheVariants.{WriteFault, NoMemory}
use Rattle.cd_base.specs.Faults.{Rose}
use Rattle.cd_replies.specs.Bytes.{Bytes}
use Rattle.cd_replies.specs.Reply.{Reply}
use Rattle.cd_driver.specs.Outside.{Outside}
use Rattle.cd_replies.specs.Disk.{Disk, Encountered}
use Rattle.cd_driver.specs.Answer.{Answer}

-- an answer to the words has this status, for the files that were encountered
abbrev pub IsCause : List Bytes → Outside → Outside → Status → Type 0
IsCause words before after status = (disk : Disk) × Encountered before.files after.files disk
    × (reply : Reply) × Answer words disk reply × (reply.status ≡ status)

-- the count of faults rose at a sink for which an answer has a text
pub record SinkFailed (words : List Bytes) (before after : Outside) : Type 0 where
  pub disk : Disk
  pub encountered : Encountered before.files after.files disk
  pub reply : Reply
  pub answer : Answer words disk reply
  pub at_sink : ((reply.out ≢ []) × Rose before.out.faults after.out.faults)
      ⊎ ((reply.err ≢ []) × Rose before.err.faults after.err.faults)

-- the cause of each status; want of memory is free
abbrev pub Cause : List Bytes → Outside → Outside → Status → Type 0
Cause words before after NoMemory = Unit {0}
Cause words before after WriteFault = SinkFailed words before after
Cause words before after status = IsCause words before after status
