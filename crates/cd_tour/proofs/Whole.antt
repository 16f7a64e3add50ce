-- A call that ended with the status of an answer wrote it whole.
use Rattle.std.proofs.Common.{◌≡◌, List, refl, subst}
use Rattle.cd_base.specs.declared.status.Status.{Status}
use Rattle.cd_base.specs.declared.status.Status.TheVariants.{WriteFault, NoMemory}
use Rattle.cd_replies.specs.Bytes.{Bytes}
use Rattle.cd_replies.specs.Reply.{Reply}
use Rattle.cd_driver.specs.Outside.{Outside}
use Rattle.cd_replies.specs.Disk.{Disk, Encountered}
use Rattle.cd_driver.specs.Answer.{Answer}
use Rattle.cd_driver.specs.Ending.{Delivered, whole, out_refused, err_refused, out_cut, err_cut, Ending, answered, no_memory, Completes}
use Rattle.cd_tour.specs.Showing.{IsAnswered}

delivered : (words : List Bytes) (disk : Disk) (before after : Outside) → Encountered before.files after.files disk → (reply : Reply) → Answer words disk reply
    → (status : Status) → Delivered before after reply status → (status ≡ WriteFault → ⊥) → (status ≡ NoMemory → ⊥)
    → IsAnswered words before after status
delivered words disk before after encountered reply answer _ (whole out err) no_fault some_memory =
    record { disk = disk; encountered = encountered; reply = reply; answer = answer; status_is = refl; out = out.known; err = err.known }
delivered words disk before after encountered reply answer _ (out_refused some fails same) no_fault some_memory = absurd (no_fault refl)
delivered words disk before after encountered reply answer _ (err_refused some fails same) no_fault some_memory = absurd (no_fault refl)
delivered words disk before after encountered reply answer _ (out_cut some puts same) no_fault some_memory = absurd (some_memory refl)
delivered words disk before after encountered reply answer _ (err_cut some puts same) no_fault some_memory = absurd (some_memory refl)

ended : (words : List Bytes) (disk : Disk) (before after : Outside) → Encountered before.files after.files disk
    → (status : Status) → Ending words disk before after status → (status ≡ WriteFault → ⊥) → (status ≡ NoMemory → ⊥)
    → IsAnswered words before after status
ended words disk before after encountered _ (answered reply answer status ways) no_fault some_memory =
    delivered words disk before after encountered reply answer status ways no_fault some_memory
ended words disk before after encountered _ (no_memory out err) no_fault some_memory = absurd (some_memory refl)

pub is_whole : (words given : List Bytes) → given ≡ words → (before after : Outside) (status : Status) → Completes given before after status
    → (status ≡ WriteFault → ⊥) → (status ≡ NoMemory → ⊥) → IsAnswered words before after status
is_whole words given same before after status completes no_fault some_memory = subst (λ words. IsAnswered words before after status) same
    (ended given completes.disk before after completes.encountered status completes.ending no_fault some_memory)
