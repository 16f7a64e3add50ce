use Rattle.std.proofs.Common.{ap, refl, subst, sym, ◌≡◌, ◌∙◌}
use Rattle.std.specs.Prelude.{IfOk, encode_utf8_all}
use Rattle.cd_model.specs.Canonical.{canonical}
use Rattle.cd_elements.specs.Table.{element_at}
use Rattle.cd_empty.specs.Seen.{table_of}
use Rattle.cd_typing.specs.RuleTexts.{text_of}
use Rattle.cd_replies.specs.Message.{reply_of}
use Rattle.cd_replies.specs.Reply.{ill_typed}
use Rattle.cd_replies.proofs.Messages.{replies, encoded}
use Rattle.cd_check.specs.declared.fault.CheckError.{CheckError}
use Rattle.cd_check.specs.declared.fault.CheckError.TheVariants.{IllTyped}
use Rattle.cd_checking.specs.Inner.FaultSaid.{IsSaid}
use Rattle.cd_checking.proofs.Programs.{element_is}
use Rattle.cd_checking.proofs.unmet.Goals as goal

-- the texts are those of the rule and of the element, which is one of the table
pub returns-in_ok-element-in-IllTyped : goal.returns-in_ok-element-in-IllTyped
returns-in_ok-element-in-IllTyped c =
    let file = c.args.file.now in
    let text = c.args.text.now in
    let fault = c.in-IllTyped.fault in
    let table = table_of c.args.world.now in
    let named = rw c.in-IllTyped.is at c.requires in
    let name = c.in_ok-element-in-IllTyped.ensures ∙ ap (λ table. canonical (element_at table fault.element)) c.elements.ensures.table in
    let element = encoded _ _ c.as_str.utf8 c.as_str.ensures ∙ ap encode_utf8_all name in
    let by_rule = subst
    (λ rule. IfOk c.ill_typed.result (λ message. reply_of message ≡ ill_typed file text fault.at rule c.as_str.result.now))
    c.text-rule.ensures c.ill_typed.ensures in
    let said = subst
    (λ element. IfOk c.ill_typed.result (λ message. reply_of message ≡ ill_typed file text fault.at (text_of fault.rule) element))
    element by_rule in
    subst (λ (one : CheckError). IfOk c.ill_typed.result (λ message. IsSaid file text table one (reply_of message))) (sym c.in-IllTyped.is)
    (replies c.ill_typed.result (ill_typed file text fault.at (text_of fault.rule) (encode_utf8_all (canonical (element_at table fault.element))))
    (IsSaid file text table (IllTyped fault)) said
    (element_is table fault.element c.elements.ensures.sound named, refl))
