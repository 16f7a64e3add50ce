use Rattle.std.proofs.Common.{ap, subst, ◌≡◌, ◌∙◌}
use Rattle.std.specs.Prelude.{IfOk}
use Rattle.cd_base.specs.declared.status.Status.TheVariants.{Naming}
use Rattle.cd_replies.specs.Message.{reply_of}
use Rattle.cd_replies.specs.Reply.{at_place, naming_message}
use Rattle.cd_replies.proofs.Messages.{encoded}
use Rattle.cd_replies.proofs.message.naming.Goals as goal

-- the text of the name is its characters
pub returns : goal.returns
returns c =
    let name = encoded _ _ c.as_str.utf8 c.as_str.ensures in
    let said = c.as_str-2.ensures.value ∙ c.in_ok-message.ensures ∙ ap (naming_message c.args.fault) name in
    subst (λ message. IfOk c.at_place.result (λ reported. reply_of reported ≡ at_place Naming c.args.origin.now c.args.text.now c.args.at message))
    said c.at_place.ensures
