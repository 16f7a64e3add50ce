use Rattle.std.proofs.Common.{◌++◌}
use Rattle.std.specs.Prelude.{codes}
use Rattle.std.specs.Str.{chars}
use Rattle.std.proofs.lemmas.Result.{on_ok_weaker}
use Rattle.cd_print.specs.Inner.Texts.{attributes_text}
use Rattle.cd_print.specs.Inner.Tasks.{tasks_text}
use Rattle.cd_print.proofs.FieldRows.{xml_text}
use Rattle.cd_print.proofs.Writing.{begun, two}
use Rattle.cd_print.proofs.fields.write_xml.Goals as goal

pub returns-clause-text : goal.returns-clause-text
returns-clause-text c =
    let values = c.args.values.now in
    let tag = chars c.tag_at.result.now in
    let rest = attributes_text values c.fields_at.result.now c.args.content in
    let text = xml_text values _ tag _ c.fields_at.result.now c.args.content c.tag_at.ensures c.fields_at.ensures in
    let put = two c.args.output.now (codes "<") tag _ c.push_str.new.self c.in_ok-push.ensures c.in_ok-push_str.ensures in
    on_ok_weaker c.push-2.result (λ left.
    begun c.args.output.now (codes "<" ++ tag) rest (tasks_text values c.args.tasks.now) c.push_str.new.self
    (tasks_text values c.push-2.new.self) _ text put (left values)) c.push-2.ensures
