-- Each way that a call ends has its status for its cause.
use Rattle.std.proofs.Common.{◌≡◌, List, inl, inr, refl}
use Rattle.cd_base.specs.declared.status.Status.{Status}
use Rattle.cd_base.specs.declared.status.Status.TheVariants.{WriteFault, NoMemory}
use Rattle.cd_replies.specs.Bytes.{Bytes}
use Rattle.cd_replies.specs.Reply.{Reply}
use Rattle.cd_driver.specs.Outside.{Outside}
use Rattle.cd_replies.specs.Disk.{Disk, Encountered}
use Rattle.cd_driver.specs.Answer.{Answer}
use Rattle.cd_driver.specs.Ending.{Delivered, whole, out_refused, err_refused, out_cut, err_cut, Ending, answered, no_memory, Completes}
use Rattle.cd_driver.specs.Causes.{IsCause, Cause}
use Rattle.cd_driver.proofs.Concluding.{answer_is_reply}

-- an answer is the cause of its status, which isn't that of a failed write
as_cause : (words : List Bytes) (before after : Outside) (status : Status) → (status ≡ WriteFault → ⊥) → IsCause words before after status → Cause words before after status
as_cause words before after WriteFault other cause = absurd (other refl)
as_cause words before after NoMemory other cause = tt
as_cause words before after status other cause = cause

module _ (words : List Bytes) (disk : Disk) (before after : Outside) (encountered : Encountered before.files after.files disk) where
  delivered_cause : (reply : Reply) → Answer words disk reply → (is : Status) → Delivered before after reply is → Cause words before after is
  delivered_cause reply answer _ (whole out err) = as_cause words before after reply.status (answer_is_reply words disk reply answer).status (disk, encountered, reply, answer, refl)
  delivered_cause reply answer _ (out_refused some fails same) = record { disk = disk; encountered = encountered; reply = reply; answer = answer; at_sink = inl (some, fails.rose) }
  delivered_cause reply answer _ (err_refused some fails same) = record { disk = disk; encountered = encountered; reply = reply; answer = answer; at_sink = inr (some, fails.rose) }
  delivered_cause reply answer _ (out_cut some puts same) = tt
  delivered_cause reply answer _ (err_cut some puts same) = tt

  ending_cause : (is : Status) → Ending words disk before after is → Cause words before after is
  ending_cause _ (answered reply answer is ways) = delivered_cause reply answer is ways
  ending_cause _ (no_memory out err) = tt

pub cause : (words : List Bytes) (before after : Outside) (is : Status) → Completes words before after is → Cause words before after is
cause words before after is completes = ending_cause words completes.disk before after completes.encountered is completes.ending
