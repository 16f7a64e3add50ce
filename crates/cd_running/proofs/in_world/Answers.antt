use Rattle.std.proofs.Common.{refl}
use Rattle.cd_replies.specs.Disk.{HasText}
use Rattle.cd_replies.specs.Message.{reply_of}
use Rattle.cd_replies.proofs.TwoFiles.{said_at_once, leads_to}
use Rattle.cd_resolved.specs.Resolved.{program_of}
use Rattle.cd_running.specs.Inner.OnDocument.{OnDocument}
use Rattle.cd_running.specs.RunAnswer.{RunAnswer, program_refused}
use Rattle.cd_running.proofs.in_world.Goals as goal

-- the program was read and has types
pub with_types-requires-clause-typed : goal.with_types-requires-clause-typed
with_types-requires-clause-typed g c = record {
  text = c.args.source.text.now;
  utf8 = c.requires.utf8;
  reads = c.requires.reads;
  typed = rw c.in-None.is at c.in_ok-no_types.ensures.types;
}

pub with_types-requires-clause-begins : goal.with_types-requires-clause-begins
with_types-requires-clause-begins g c = rw c.in-None.is at c.in_ok-no_types.ensures.begins

pub returns-in-None : goal.returns-in-None
returns-in-None g c =
    let file = c.args.source.file.now in
    let text = c.args.source.text.now in
    let typed = rw c.in-None.is at c.in_ok-no_types.ensures.types in
    leads_to (OnDocument (program_of c.args.program) c.args.units c.args.document.now)
    (λ disk reply. HasText disk file text → RunAnswer disk c.args.units file c.args.document.now reply)
    _ _ c.args.document.now c.with_types.result
    (λ disk reply answers has. answers file (record { text = text; has = record { has = has; reads = c.requires.reads }; typed = typed })) c.with_types.ensures

-- or a rule of typing is reported
pub returns-in-Some : goal.returns-in-Some
returns-in-Some g c =
    let file = c.args.source.file.now in
    let text = c.args.source.text.now in
    let reports = rw c.in-Some.is at c.in_ok-no_types.ensures.types in
    let said = reply_of c.in-Some.message in
    said_at_once (λ disk reply. HasText disk file text → RunAnswer disk c.args.units file c.args.document.now reply)
    _ c.args.document.now said _ refl
    (λ disk has. program_refused text (program_of c.args.program) (record { has = has; reads = c.requires.reads }) said reports)
