use Rattle.std.proofs.Common.{refl, ap, subst, ◌≡◌, ◌∙◌}
use Rattle.std.specs.Prelude.{IfOk, codes, ◌++◌, encode_utf8_all}
use Rattle.cd_base.specs.declared.status.Status.TheVariants.{Done, No}
use Rattle.cd_model.specs.Canonical.{canonical}
use Rattle.cd_elements.specs.Table.{element_at}
use Rattle.cd_empty.specs.Seen.{graph_of, table_of}
use Rattle.cd_sub.specs.Inner.Comparing.{ComparesNodes, within}
use Rattle.cd_replies.specs.Message.{reply_of}
use Rattle.cd_replies.specs.Reply.{says}
use Rattle.cd_replies.proofs.Messages.{replies, encoded}
use Rattle.cd_sub.proofs.Comparing.{found}
use Rattle.cd_sub.proofs.compare.compare_nodes.Goals as goal

pub returns-in-Empty : goal.returns-in-Empty
returns-in-Empty c =
    let all = rw c.in-Empty.is at c.in_ok-subtype.ensures.elements in
    replies c.yes.result (says Done (codes "yes")) (ComparesNodes (graph_of c.args.world.now) c.args.first c.args.second) c.yes.ensures
    (within (all refl))

pub returns-in_ok-text-in-Inhabited : goal.returns-in_ok-text-in-Inhabited
returns-in_ok-text-in-Inhabited c =
    let exact = rw c.in-Inhabited.is at c.in_ok-subtype.ensures.exact in
    let id = c.in-Inhabited.id in
    let table = table_of c.subtype.new.self in
    let graph = graph_of c.args.world.now in
    let name = c.in_ok-text-in-Inhabited.ensures ∙ ap (λ table. canonical (element_at table id)) c.elements.ensures.table in
    let text = encoded _ _ c.as_str-in-Inhabited.utf8 c.as_str-in-Inhabited.ensures ∙ ap encode_utf8_all name in
    let reported = subst (λ text. IfOk c.no.result (λ message. reply_of message ≡ says No (codes "no: " ++ text))) text c.no.ensures in
    replies c.no.result (says No (codes "no: " ++ encode_utf8_all (canonical (element_at table id))))
    (ComparesNodes graph c.args.first c.args.second) reported
    (found graph table c.args.first c.args.second id exact)
