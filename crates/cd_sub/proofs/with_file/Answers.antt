use Rattle.cd_syntax.specs.PlainTree.{plain_declarations}
use Rattle.cd_replies.specs.Reply.{refusal}
use Rattle.cd_replies.specs.Disk.{Disk, HasText, refused}
use Rattle.cd_replies.specs.Naming.{RefusesNames}
use Rattle.cd_replies.specs.Texts.{RefusesDeclarations}
use Rattle.cd_replies.proofs.Messages.{refusal_replies}
use Rattle.cd_replies.proofs.TextReading.{writes_declares, writes_refused}
use Rattle.cd_sub.specs.SubAnswer.{SubTypesAnswer, file_refused, on_texts}
use Rattle.cd_sub.proofs.with_file.Goals as goal

pub returns-in-Ok-sub_with : goal.returns-in-Ok-sub_with
returns-in-Ok-sub_with c =
    let text = c.args.text.now in
    let declared = plain_declarations c.in-Ok.declared in
    let declares = writes_declares text declared c.in-Ok.ensures.read c.in-Ok-sub_with.ensures.sound in
    λ disk has. on_texts text has declared declares _ c.in-Ok-sub_with.ensures.answer

pub returns-in-Err : goal.returns-in-Err
returns-in-Err c =
    let file = c.args.file.now in
    let text = c.args.text.now in
    refusal_replies c.refused.result file text c.in-Err.error (RefusesDeclarations text)
    (λ reply. (disk : Disk) → HasText disk file text → SubTypesAnswer disk file c.args.first.now c.args.second.now reply) c.refused.ensures c.in-Err.ensures.refused
    (λ found stands disk has. file_refused (refusal file text found) (refused text has found stands))

pub returns : goal.returns
returns c =
    let file = c.args.file.now in
    let text = c.args.text.now in
    let declared = plain_declarations c.in-Ok.declared in
    refusal_replies c.refused-in-Err-sub_with.result file text c.in-Err-sub_with.error (RefusesNames declared)
    (λ reply. (disk : Disk) → HasText disk file text → SubTypesAnswer disk file c.args.first.now c.args.second.now reply)
    c.refused-in-Err-sub_with.ensures c.in-Err-sub_with.ensures.refused
    (λ found refuses disk has. file_refused (refusal file text found) (refused text has found (writes_refused text declared c.in-Ok.ensures.read found refuses)))
