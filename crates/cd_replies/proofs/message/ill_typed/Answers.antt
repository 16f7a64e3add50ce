use Rattle.std.proofs.Common.{subst, sym, codes, ◌≡◌, ◌∙◌}
use Rattle.std.specs.Prelude.{IfOk}
use Rattle.std.proofs.lemmas.List.{append_assoc}
use Rattle.cd_base.specs.declared.status.Status.TheVariants.{IllTyped}
use Rattle.cd_replies.specs.Message.{reply_of}
use Rattle.cd_replies.specs.Reply.{at_place}
use Rattle.cd_replies.proofs.message.ill_typed.Goals as goal

-- the message is the rule with the element
pub returns : goal.returns
returns c =
    let said = c.as_str.ensures.value ∙ c.in_ok-message.ensures.ok
    ∙ sym (append_assoc c.args.rule.now (codes ": ") c.args.element.now) in
    subst (λ message. IfOk c.at_place.result (λ reported. reply_of reported ≡ at_place IllTyped c.args.origin.now c.args.text.now c.args.at message))
    said c.at_place.ensures
