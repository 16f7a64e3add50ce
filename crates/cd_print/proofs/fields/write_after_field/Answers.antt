use Rattle.std.proofs.Common.{◌++◌}
use Rattle.std.specs.Prelude.{codes}
use Rattle.std.proofs.lemmas.Result.{on_ok_weaker}
use Rattle.cd_print.specs.Inner.Texts.{after_field}
use Rattle.cd_print.specs.Inner.Tasks.{tasks_text}
use Rattle.cd_print.proofs.FieldRows.{first, more, after_cut}
use Rattle.cd_print.proofs.Writing.{opened}
use Rattle.cd_print.proofs.fields.write_after_field.Goals as goal

pub returns-in_ok-push_two-in-len1-up-clause-text : goal.returns-in_ok-push_two-in-len1-up-clause-text
returns-in_ok-push_two-in-len1-up-clause-text c =
    let values = c.args.values.now in
    let parts = c.args.parts.now in
    let text = after_cut values parts c.in-len1-up.len_at_least in
    on_ok_weaker c.write_field.result
    (opened c.args.output.now (codes "; ") (first values parts ++ after_field (more values parts))
    (tasks_text values c.args.tasks.now) c.write_field.new.output (tasks_text values c.write_field.new.tasks) _ text _
    c.in_ok-push_two-in-len1-up.ensures) c.write_field.ensures.text
