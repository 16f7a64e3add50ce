use Rattle.std.proofs.Common.{sym, subst}
use Rattle.cd_syntax.specs.PlainTree.{plain_declarations}
use Rattle.cd_resolve.specs.Named.{declared_by}
use Rattle.cd_replies.specs.Bytes.{Bytes}
use Rattle.cd_replies.specs.Disk.{HasText, refused}
use Rattle.cd_replies.specs.Naming.{AreNamedWell, RefusesNames}
use Rattle.cd_replies.specs.Reply.{refusal}
use Rattle.cd_replies.specs.Texts.{Declares, RefusesDeclarations}
use Rattle.cd_replies.proofs.TextReading.{writes_declares, writes_refused}
use Rattle.cd_member.specs.MemberAnswer.{FileDeclares, MemberAnswer, file_refused}
use Rattle.cd_replies.proofs.TwoFiles.{refused_at_once, leads_to}
use Rattle.cd_member.proofs.with_file.Goals as goal

-- the names are those of the declarations
pub with_names-requires-clause-names_sound : goal.with_names-requires-clause-names_sound
with_names-requires-clause-names_sound g c = subst AreNamedWell (sym c.in-Ok-declare.ensures.list) c.in-Ok-declare.ensures.named

pub returns-in-Ok-declare : goal.returns-in-Ok-declare
returns-in-Ok-declare g c =
    let file = c.args.file.now in
    let types = c.args.types.now in
    let declared = plain_declarations c.in-Ok.declared in
    let declares = subst (Declares types) (sym c.in-Ok-declare.ensures.list)
    (writes_declares types declared c.in-Ok.ensures.read c.in-Ok-declare.ensures.named) in
    leads_to
    (λ disk reply. (file : Bytes) → FileDeclares disk file (declared_by c.in-Ok-declare.names) → MemberAnswer disk file c.args.document.now c.args.text.now reply)
    (λ disk reply. HasText disk file types → MemberAnswer disk file c.args.document.now c.args.text.now reply)
    _ _ c.args.document.now c.with_names.result
    (λ disk reply answers has. answers file (record { text = types; has = has; declares = declares })) c.with_names.ensures

pub returns-in-Err : goal.returns-in-Err
returns-in-Err g c =
    let file = c.args.file.now in
    let types = c.args.types.now in
    refused_at_once (λ disk reply. HasText disk file types → MemberAnswer disk file c.args.document.now c.args.text.now reply)
    _ c.args.document.now file types c.in-Err.error (RefusesDeclarations types) c.in-Err.ensures.refused c.refused.result c.refused.ensures
    (λ found stands disk has. file_refused (refusal file types found) (refused types has found stands))

pub returns : goal.returns
returns g c =
    let file = c.args.file.now in
    let types = c.args.types.now in
    let declared = plain_declarations c.in-Ok.declared in
    refused_at_once (λ disk reply. HasText disk file types → MemberAnswer disk file c.args.document.now c.args.text.now reply)
    _ c.args.document.now file types c.in-Err-declare.error (RefusesNames declared) c.in-Err-declare.ensures.refused
    c.refused-in-Err-declare.result c.refused-in-Err-declare.ensures
    (λ found stands disk has. file_refused (refusal file types found) (refused types has found (writes_refused types declared c.in-Ok.ensures.read found stands)))
