use Rattle.std.specs.Prelude.{codes}
use Rattle.std.proofs.lemmas.Result.{on_ok_weaker}
use Rattle.cd_elements.specs.declared.task.Mark.TheVariants.{Semicolon}
use Rattle.cd_elements.specs.Inner.Rows.{part_text_in}
use Rattle.cd_elements.proofs.WholeRows.{row_closed}
use Rattle.cd_elements.proofs.rows.push_record.Goals as goal

pub returns-in_ok-push_fields-in-len1-up : goal.returns-in_ok-push_fields-in-len1-up
returns-in_ok-push_fields-in-len1-up c = on_ok_weaker c.push.result (λ first table.
    let item = c.first-item in
    row_closed (part_text_in table) Semicolon c.args.parts.now item.result item.result (codes "}") _ _ _ _
    c.in-len1-up.len_at_least item.is
    (c.in_ok-push_mark.ensures table) (c.in_ok-push_fields-in-len1-up.ensures table) (first table)) c.push.ensures
