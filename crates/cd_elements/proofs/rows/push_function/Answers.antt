use Rattle.std.proofs.Common.{refl}
use Rattle.std.specs.Prelude.{None, codes}
use Rattle.std.proofs.lemmas.Result.{on_ok_weaker}
use Rattle.cd_elements.specs.declared.task.Mark.TheVariants.{Semicolon}
use Rattle.cd_elements.specs.Inner.Rows.{pair_text_in}
use Rattle.cd_elements.proofs.WholeRows.{row_closed}
use Rattle.cd_elements.proofs.rows.push_function.Goals as goal

pub returns-in_ok-push_pairs-in-len1-up : goal.returns-in_ok-push_pairs-in-len1-up
returns-in_ok-push_pairs-in-len1-up c = on_ok_weaker c.push_pair.result (λ first table.
    row_closed (pair_text_in table) Semicolon c.args.pairs.now _ (record { 0 = 0 }, None) (codes "}") _ _ _ _
    c.in-len1-up.len_at_least refl
    (c.in_ok-push_mark.ensures table) (c.in_ok-push_pairs-in-len1-up.ensures table) (first table)) c.push_pair.ensures
