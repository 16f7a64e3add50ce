-- From the put of a message to the theorem about the whole program.
use Rattle.std.proofs.Common.{◌≡◌, ℕ, Bool, true, false, List, [], Option, Some, None, refl, sym, ap, subst, inl, inr, ◌⊎◌, rules}
use Rattle.std.specs.Prelude.{IsTrue, if◌then◌else◌, string_bytes}
use Rattle.std.specs.Io.KnownBytes.{Appends}
use Rattle.cd_base.specs.declared.status.Status.{Status}
use Rattle.cd_base.specs.declared.status.Status.TheVariants.{NoMemory}
use Rattle.cd_base.specs.FilesState.{FilesState}
use Rattle.cd_base.specs.SinkState.{SinkState, Puts}
use Rattle.cd_syntax.specs.TypeTree.{NoDeclaration}
use Rattle.cd_replies.specs.Bytes.{Bytes}
use Rattle.cd_driver.specs.Command.{Command, Sub, SubTypes, Member, Check, Run, RunSteps, Work}
use Rattle.cd_replies.specs.Reply.{Reply}
use Rattle.cd_driver.specs.Outside.{Outside, outside}
use Rattle.cd_replies.specs.Disk.{Disk, Encountered, all_read, unreadable}
use Rattle.cd_driver.specs.Answer.{Answer, AnswerOf}
use Rattle.cd_driver.specs.Ending.{Delivered, whole, out_refused, err_refused, out_cut, err_cut, Ending, answered, no_memory, Completes}
use Rattle.cd_driver.specs.Headline.{NothingFailed, IsAnswered, Headline, known_files}
use Rattle.cd_driver.specs.Inner.Delivering.{Put, whole as put_whole, refused as put_refused, cut as put_cut}
use Rattle.cd_replies.specs.declared.message.Message.{Message}
use Rattle.cd_replies.specs.Message.{reply_of}
use Rattle.cd_replies.proofs.Replies.{IsReply}
use Rattle.cd_checking.proofs.CheckReplies.{check_is_reply}
use Rattle.cd_member.proofs.MemberReplies.{member_is_reply}
use Rattle.cd_running.proofs.RunReplies.{run_is_reply}
use Rattle.cd_running.specs.RunAnswer.{UNITS}
use Rattle.cd_sub.proofs.SubReplies.{sub_is_reply, sub_types_is_reply}
use Rattle.cd_running.proofs.WorkReplies.{work_is_reply}

-- each answer is a reply
command_is_reply : (disk : Disk) (command : Command) (reply : Reply) → AnswerOf command disk reply → IsReply reply
command_is_reply disk (Sub text1 text2) reply answers = sub_is_reply NoDeclaration text1 text2 reply answers
command_is_reply disk (SubTypes file text1 text2) reply answers = sub_types_is_reply disk file text1 text2 reply answers
command_is_reply disk (Member file document text) reply answers = member_is_reply disk file document text reply answers
command_is_reply disk (Check file) reply answers = check_is_reply disk file reply answers
command_is_reply disk (Run file document) reply answers = run_is_reply disk UNITS file document reply answers
command_is_reply disk (RunSteps units file document) reply answers = run_is_reply disk units file document reply answers
command_is_reply disk (Work size) reply answers = work_is_reply size reply answers

pub answer_is_reply : (words : List Bytes) (disk : Disk) (reply : Reply) → Answer words disk reply → IsReply reply
answer_is_reply words disk reply (inl none) = subst IsReply (sym none.1) (record { text = λ out err. cc; status = λ failed. cc })
answer_is_reply words disk reply (inr given) = command_is_reply disk given.0 reply given.2

-- nothing was put
appends_nothing : (known : Option (List ℕ)) → Appends known known []
appends_nothing None = tt
appends_nothing (Some bytes) = search rules

puts_nothing : (old new : SinkState) → new ≡ old → Puts old new []
puts_nothing old new same = record { known = rw same (appends_nothing old.known); faults = ap (λ s. s.faults) same }

-- the text of a message went to one sink
delivered_out : (before after : Outside) (status : Status) (text : Bytes) → (text ≡ [] → ⊥) → (ending : Status)
    → Put text status before.out after.out ending → after.err ≡ before.err → Delivered before after (record { status = status; out = text; err = [] }) ending
delivered_out before after status text some _ (put_whole puts) same = whole puts (puts_nothing before.err after.err same)
delivered_out before after status text some _ (put_refused fails) same = out_refused some fails same
delivered_out before after status text some _ (put_cut puts) same = out_cut some puts same

delivered_err : (before after : Outside) (status : Status) (text : Bytes) → (text ≡ [] → ⊥) → (ending : Status)
    → Put text status before.err after.err ending → after.out ≡ before.out → Delivered before after (record { status = status; out = []; err = text }) ending
delivered_err before after status text some _ (put_whole puts) same = whole (puts_nothing before.out after.out same) puts
delivered_err before after status text some _ (put_refused fails) same = err_refused some fails same
delivered_err before after status text some _ (put_cut puts) same = err_cut some puts same

-- a message that is an answer was delivered
delivered_message : (words : List Bytes) (disk : Disk) (before after : Outside) (on_output : Bool) (status : Status) (text : Bytes) (ending : Status)
    → Answer words disk (if on_output then record { status = status; out = text; err = [] } else record { status = status; out = []; err = text })
    → (IsTrue on_output → Put text status before.out after.out ending × (after.err ≡ before.err))
    → (on_output ≡ false → Put text status before.err after.err ending × (after.out ≡ before.out))
    → Ending words disk before after ending
delivered_message words disk before after true status text ending answer output errors =
    let put = output refl in
    answered (record { status = status; out = text; err = [] }) answer ending (delivered_out before after status text (λ none. (answer_is_reply words disk (record { status = status; out = text; err = [] }) answer).text none refl) ending put.0 put.1)
delivered_message words disk before after false status text ending answer output errors =
    let put = errors refl in
    answered (record { status = status; out = []; err = text }) answer ending (delivered_err before after status text (λ none. (answer_is_reply words disk (record { status = status; out = []; err = text }) answer).text refl none) ending put.0 put.1)

-- a call ends with the put of a message that answers the words, or with nothing put where memory ran out
pub ends : (words : List Bytes) (before : Outside) (files : FilesState) (out err : SinkState) (message : Message) (ending : Status)
    → (disk : Disk) → Encountered before.files files disk → Answer words disk (reply_of message)
    → (IsTrue message.on_output → Put (string_bytes message.text) message.status before.out out ending × (err ≡ before.err))
    → (message.on_output ≡ false → Put (string_bytes message.text) message.status before.err err ending × (out ≡ before.out))
    → Completes words before (outside files out err) ending
ends words before files out err message ending disk encountered answer output errors = record {
  disk = disk;
  encountered = encountered;
  ending = delivered_message words disk before (outside files out err) message.on_output message.status (string_bytes message.text) ending answer output errors;
}

pub ends_at_once : (words : List Bytes) (before : Outside) (files : FilesState) (disk : Disk) → Encountered before.files files disk
    → Completes words before (outside files before.out before.err) NoMemory
ends_at_once words before files disk encountered = record { disk = disk; encountered = encountered; ending = no_memory refl refl }

-- where nothing failed, the way that a call ended is an answer, or memory ran out
headline_delivered : (words : List Bytes) (before after : Outside) (reply : Reply) → Answer words (known_files before) reply → (status : Status) → Delivered before after reply status → NothingFailed before after
    → (status ≡ NoMemory) ⊎ IsAnswered words before after status
headline_delivered words before after reply answer _ (whole out err) nothing = inr (record { reply = reply; answer = answer; status_is = refl; out = out.known; err = err.known })
headline_delivered words before after reply answer _ (out_refused some fails same) nothing = absurd (nothing.out fails.rose)
headline_delivered words before after reply answer _ (err_refused some fails same) nothing = absurd (nothing.err fails.rose)
headline_delivered words before after reply answer _ (out_cut some puts same) nothing = inl refl
headline_delivered words before after reply answer _ (err_cut some puts same) nothing = inl refl

headline_ending : (words : List Bytes) (before after : Outside) (status : Status) → Ending words (known_files before) before after status → NothingFailed before after
    → (status ≡ NoMemory) ⊎ IsAnswered words before after status
headline_ending words before after _ (answered reply answer status ways) nothing = headline_delivered words before after reply answer status ways nothing
headline_ending words before after _ (no_memory out err) nothing = inl refl

headline_encountered : (words : List Bytes) (before after : Outside) (status : Status) (disk : Disk) → Encountered before.files after.files disk → Ending words disk before after status
    → NothingFailed before after → (status ≡ NoMemory) ⊎ IsAnswered words before after status
headline_encountered words before after status _ (all_read same) ending nothing = headline_ending words before after status ending nothing
headline_encountered words before after status _ (unreadable name rose last) ending nothing = absurd (nothing.files rose)

pub headline : (words : List Bytes) (before after : Outside) (status : Status) → Completes words before after status → Headline words before after status
headline words before after status completes = λ nothing. headline_encountered words before after status completes.disk completes.encountered completes.ending nothing
