use Rattle.std.proofs.Common.{List, ◌++◌, map, sym, ap, ◌∙◌, arith}
use Rattle.std.specs.Prelude.{codes}
use Rattle.std.proofs.lemmas.Result.{on_ok_weaker}
use Rattle.cd_model.specs.Canonical.{Text, Spine, joined, spine_text}
use Rattle.cd_elements.specs.Elements.{table}
use Rattle.cd_elements.specs.Inner.Tasks.{text_in}
use Rattle.cd_elements.specs.Inner.Rows.{tuple_rest}
use Rattle.cd_elements.proofs.Looks.{parts_written}
use Rattle.cd_elements.proofs.Writes.{begun}
use Rattle.cd_elements.proofs.text.write_spine.Goals as goal

-- a tuple
pub returns-in-Some : goal.returns-in-Some
returns-in-Some c =
    let all = table c.args.elements.now in
    let end = c.in-Some.end in
    let spine = sym (rw c.in-Some.is at c.in_ok-spine.ensures) in
    let firsts = parts_written all c.in_ok-spine.spine.firsts.items ∙ ap (map (text_in all)) (sym c.as_slice.ensures.value) in
    let closed = λ (texts : List Text). codes "(" ++ joined (codes ", ") texts ++ codes ", " ++ text_in all end ++ codes ")" in
    let text = ap (λ (one : Spine). spine_text one.parts one.end) spine ∙ ap closed firsts in
    let left = c.in_ok-push_tuple-in-Some.ensures all in
    let written = begun all _ _ _ _ (codes "(") (tuple_rest all c.as_slice.result.now end) _ text (omega arith) left in
    on_ok_weaker c.push.result written c.push.ensures
