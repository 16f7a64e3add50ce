-- Each answer of `work` is a reply.
use Rattle.std.proofs.Common.{ℕ, length}
use Rattle.cd_replies.specs.Reply.{Reply}
use Rattle.cd_replies.proofs.Replies.{IsReply, line_some}
use Rattle.cd_running.specs.Ending.{text_of}
use Rattle.cd_running.specs.WorkAnswer.{WorkAnswer, worked, summary}

pub work_is_reply : (size : ℕ) (reply : Reply) → WorkAnswer size reply → IsReply reply
work_is_reply size _ (worked used value affirmed runs answered) =
    record { text = λ out err. line_some (summary size used (length (text_of value)) affirmed) out; status = λ is. cc }
