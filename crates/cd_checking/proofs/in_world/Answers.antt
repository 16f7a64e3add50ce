use Rattle.std.specs.Prelude.{codes}
use Rattle.cd_base.specs.declared.status.Status.TheVariants.{Done}
use Rattle.cd_replies.specs.Message.{reply_of}
use Rattle.cd_replies.specs.Reply.{says}
use Rattle.cd_replies.proofs.Messages.{replies}
use Rattle.cd_resolved.specs.Resolved.{program_of}
use Rattle.cd_checking.specs.CheckAnswer.{ProgramAnswer, accepted, ill_typed}
use Rattle.cd_checking.proofs.in_world.Goals as goal

-- the typing rules type it
pub returns-in-None : goal.returns-in-None
returns-in-None c =
    replies c.accepted.result (says Done (codes "accepted"))
    (ProgramAnswer c.args.file.now c.args.text.now (program_of c.args.program.now)) c.accepted.ensures
    (accepted (rw c.in-None.is at c.in_ok-no_types.ensures.types))

-- or a rule is reported
pub returns-in-Some : goal.returns-in-Some
returns-in-Some c = ill_typed (reply_of c.in-Some.message) (rw c.in-Some.is at c.in_ok-no_types.ensures.types)
