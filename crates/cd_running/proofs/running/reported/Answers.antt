use Rattle.std.proofs.Common.{◌≡◌, sym, subst, ◌∙◌}
use Rattle.std.specs.Prelude.{IfOk}
use Rattle.cd_cells.specs.Cells.{thing_at}
use Rattle.cd_cells.specs.Table.{table}
use Rattle.cd_machine.specs.PlainRan.{plain_outcome}
use Rattle.cd_replies.specs.Message.{reply_of}
use Rattle.cd_replies.specs.Reply as reply
use Rattle.cd_replies.specs.Reply.{Reply}
use Rattle.cd_replies.proofs.Messages.{replies}
use Rattle.cd_running.specs.Ending.{Reports, done, raised, overflow, spent, text_of}
use Rattle.cd_running.proofs.running.reported.Goals as goal

pub returns-in_ok-print_value-in-Done : goal.returns-in_ok-print_value-in-Done
returns-in_ok-print_value-in-Done c =
    let all = table c.args.values.now in
    let v = thing_at all c.in-Done.value.0 in
    let said = subst (λ bytes. IfOk c.printed.result (λ message. reply_of message ≡ reply.printed bytes)) c.in_ok-print_value-in-Done.ensures c.printed.ensures in
    replies c.printed.result (reply.printed (text_of v)) (Reports (plain_outcome all c.args.outcome)) said
    (subst (λ outcome. Reports (plain_outcome all outcome) (reply.printed (text_of v))) (sym c.in-Done.is) (done v))

pub returns-in_ok-text-in-Raised : goal.returns-in_ok-text-in-Raised
returns-in_ok-text-in-Raised c =
    let all = table c.args.values.now in
    let v = thing_at all c.in-Raised.value.0 in
    let said = subst (λ bytes. IfOk c.uncaught.result (λ message. reply_of message ≡ reply.uncaught bytes))
    (c.as_str.ensures.value ∙ c.in_ok-text-in-Raised.ensures) c.uncaught.ensures in
    replies c.uncaught.result (reply.uncaught (text_of v)) (Reports (plain_outcome all c.args.outcome)) said
    (subst (λ outcome. Reports (plain_outcome all outcome) (reply.uncaught (text_of v))) (sym c.in-Raised.is) (raised v))

pub returns-in-Overflow : goal.returns-in-Overflow
returns-in-Overflow c =
    let all = table c.args.values.now in
    replies c.overflow.result reply.overflow (Reports (plain_outcome all c.args.outcome)) c.overflow.ensures
    (subst (λ outcome. Reports (plain_outcome all outcome) reply.overflow) (sym c.in-Overflow.is) overflow)

pub returns-in-Spent : goal.returns-in-Spent
returns-in-Spent c =
    let all = table c.args.values.now in
    replies c.spent.result reply.spent (Reports (plain_outcome all c.args.outcome)) c.spent.ensures
    (subst (λ outcome. Reports (plain_outcome all outcome) reply.spent) (sym c.in-Spent.is) spent)
