use Rattle.std.proofs.Common.{◌++◌, ap, ◌∙◌, sym}
use Rattle.std.proofs.lemmas.Result.{on_ok_weaker}
use Rattle.cd_model.specs.Canonical.{Spine}
use Rattle.cd_print.specs.Inner.Texts.{spine_at, letters, enclosed, after_item}
use Rattle.cd_print.specs.Inner.Tasks.{tasks_text}
use Rattle.cd_print.proofs.Spines.{letters_first}
use Rattle.cd_print.proofs.Writing.{begun}
use Rattle.cd_print.proofs.spine.write_item.Goals as goal

pub returns-in_ok-rest-in-Letter-clause-text : goal.returns-in_ok-rest-in-Letter-clause-text
returns-in_ok-rest-in-Letter-clause-text c =
    let values = c.args.values.now in
    let spine = spine_at values c.args.id in
    let first = ap (λ (one : Spine). one.parts) c.in-Letter.ensures.spine in
    let opening = enclosed 39 (letters spine.parts) in
    let text = letters_first spine.parts _ _ first ∙ ap (λ parts. opening ++ after_item parts) (sym c.in_ok-rest-in-Letter.ensures.rest) in
    on_ok_weaker c.push.result (λ left.
    begun c.args.output.now opening _ (tasks_text values c.args.tasks.now) c.write_letters.new.output
    (tasks_text values c.push.new.self) _ text c.in_ok-rest-in-Letter.ensures.text (left values)) c.push.ensures
