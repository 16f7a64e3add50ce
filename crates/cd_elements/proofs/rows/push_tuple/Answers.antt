use Rattle.std.proofs.Common.{◌++◌, refl}
use Rattle.std.specs.Prelude.{codes}
use Rattle.std.proofs.lemmas.Result.{on_ok_weaker}
use Rattle.cd_elements.specs.declared.task.Mark.TheVariants.{Comma}
use Rattle.cd_elements.specs.Inner.Tasks.{text_in}
use Rattle.cd_elements.proofs.WholeRows.{row_closed, ended, with_end}
use Rattle.cd_elements.proofs.rows.push_tuple.Goals as goal

pub returns-in_ok-push_elements-in-len1-up : goal.returns-in_ok-push_elements-in-len1-up
returns-in_ok-push_elements-in-len1-up c = on_ok_weaker c.push_element-in-len1-up.result (λ first table.
    let end = text_in table c.args.end in
    let close = codes ", " ++ (end ++ codes ")") in
    let left = ended (codes ", ") end (codes ")") _ _ _ _
    (c.in_ok-push_mark.ensures table) (c.in_ok-push_element.ensures table) (c.in_ok-push_mark-2.ensures table) in
    let others = c.in_ok-push_elements-in-len1-up.ensures table in
    let whole = row_closed (text_in table) Comma c.args.firsts.now _ (record { 0 = 0 }) close _ _ _ _
    c.in-len1-up.len_at_least refl left others (first table) in
    with_end _ (codes ", ") end (codes ")") _ _ whole) c.push_element-in-len1-up.ensures
