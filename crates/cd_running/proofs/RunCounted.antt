-- What is counted of the run on a document is what the answer says of it.
use Rattle.std.proofs.Common.{◌≡◌, ℕ, ◌+◌, ◌≤◌, List, Some, Result, Ok, Err, length, ap, subst}
use Rattle.std.specs.Prelude.{IfOk}
use Rattle.std.specs.declared.alloc.AllocError.{AllocError}
use Rattle.cd_model.specs.Thing.{Thing}
use Rattle.cd_evaluation.specs.Runs.{Done}
use Rattle.cd_machine.specs.declared.outcome.Ran.{Ran}
use Rattle.cd_machine.specs.PlainRan.{plain_outcome, plain_ran}
use Rattle.cd_replies.specs.Message.{reply_of}
use Rattle.cd_replies.specs.Reply as reply
use Rattle.cd_replies.specs.declared.message.Message.{Message}
use Rattle.cd_replies.proofs.Messages.{replies}
use Rattle.cd_running.specs.Ending.{text_of}
use Rattle.cd_running.specs.declared.workload.runs.Ended.{Ended}
use Rattle.cd_running.specs.Inner.WorkCounted.{IsOfRun}
use Rattle.cd_running.specs.Inner.WorkValues.{result}
use Rattle.cd_running.specs.Queries.{Answered}
use Rattle.cd_running.specs.WorkAnswer.{WorkAnswer, worked, summary}
use Rattle.cd_running.proofs.RunFound.{end_of, left_of, runs}

module _ (size : ℕ) (all : List Thing) (ran : Ran) (is : Some (plain_ran all ran) ≡ Some (end_of size)) where
  ends : plain_ran all ran ≡ end_of size
  ends = cc

  pub gave : plain_outcome all ran.outcome ≡ Done (result size)
  gave = ap (λ r. r.outcome) ends

  pub left : ran.left ≡ left_of size
  left = ap (λ r. r.left) ends

  pub counted : size ≤ 100000 → (r : Result Ended AllocError) → IfOk r (λ ended. ended.used + ran.left ≡ 1000000000)
      → IfOk r (λ ended. (v : Thing) → plain_outcome all ran.outcome ≡ Done v → ended.length ≡ length (text_of v))
      → IfOk r (IsOfRun size)
  counted small (Ok ended) used long = (
    result size,
    runs size ended.used small (subst (λ (n : ℕ). ended.used + n ≡ 1000000000) left used),
    long (result size) gave,
  )
  counted small (Err error) used long = tt

-- and the line that says it is an answer
pub said : (size : ℕ) (ended : Ended) (affirmed : ℕ) → IsOfRun size ended → Answered size affirmed → (r : Result Message AllocError)
    → IfOk r (λ message. reply_of message ≡ reply.printed (summary size ended.used ended.length affirmed))
    → IfOk r (λ message. WorkAnswer size (reply_of message))
said size ended affirmed of_run answered r is =
    replies r (reply.printed (summary size ended.used ended.length affirmed)) (WorkAnswer size) is
    (subst (λ (n : ℕ). WorkAnswer size (reply.printed (summary size ended.used n affirmed))) (back of_run.2)
    (worked ended.used of_run.0 affirmed of_run.1 answered))
  where
    back : {a b : ℕ} → a ≡ b → b ≡ a
    back same = cc
