-- Each answer of `run` is a reply.
use Rattle.std.proofs.Common.{ℕ, ◌++◌}
use Rattle.std.specs.Prelude.{codes}
use Rattle.cd_evaluation.specs.Runs.{Outcome}
use Rattle.cd_replies.specs.Bytes.{Bytes}
use Rattle.cd_replies.specs.Reply.{Reply}
use Rattle.cd_replies.specs.Texts.{RefusesProgram}
use Rattle.cd_replies.specs.Disk.{Disk}
use Rattle.cd_replies.specs.Documents.{RefusesDocument}
use Rattle.cd_replies.proofs.Replies.{IsReply, line_some, file_is_reply}
use Rattle.cd_checking.proofs.CheckReplies.{fault_is_reply}
use Rattle.cd_running.specs.Ending.{Reports, done, raised, overflow, spent, text_of}
use Rattle.cd_running.specs.RunAnswer.{RunAnswer, file_refused, program_refused, document_refused, not_input, ran}

ending_is_reply : (outcome : Outcome) (reply : Reply) → Reports outcome reply → IsReply reply
ending_is_reply _ _ (done v) = record { text = λ out err. line_some (text_of v) out; status = λ is. cc }
ending_is_reply _ _ (raised v) = record { text = λ out err. line_some (codes "uncaught exception: " ++ text_of v) err; status = λ is. cc }
ending_is_reply _ _ overflow = record { text = λ out err. line_some (codes "overflow") err; status = λ is. cc }
ending_is_reply _ _ spent = record { text = λ out err. line_some (codes "steps spent") err; status = λ is. cc }

pub run_is_reply : (disk : Disk) (units : ℕ) (file document : Bytes) (reply : Reply) → RunAnswer disk units file document reply → IsReply reply
run_is_reply disk units file document _ (file_refused reply refusal) = file_is_reply RefusesProgram disk file reply refusal
run_is_reply disk units file document _ (program_refused text program has reply reports) = fault_is_reply file text program reply reports
run_is_reply disk units file document _ (document_refused program has reply refusal) = file_is_reply RefusesDocument disk document reply refusal
run_is_reply disk units file document _ (not_input given outside) = record { text = λ out err. line_some (document ++ codes ": not of the input type") err; status = λ is. cc }
run_is_reply disk units file document _ (ran result has reply reports) = ending_is_reply result.outcome reply reports
