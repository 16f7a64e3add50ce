use Rattle.std.proofs.Common.{sym, ◌∙◌}
use Rattle.std.specs.Prelude.{codes}
use Rattle.std.proofs.lemmas.Result.{on_ok_weaker}
use Rattle.cd_print.specs.Inner.Texts.{spine_at, letters, enclosed, items_text, parts_text, end_text}
use Rattle.cd_print.specs.Inner.Tasks.{tasks_text}
use Rattle.cd_print.proofs.Spines.{text_spine, sequence_spine, tuple_spine}
use Rattle.cd_print.proofs.Writing.{all_written, opened}
use Rattle.cd_print.proofs.spine.write_spine.Goals as goal

pub returns-in_ok-write_letters-in-Text-clause-text : goal.returns-in_ok-write_letters-in-Text-clause-text
returns-in_ok-write_letters-in-Text-clause-text c =
    let spine = spine_at c.args.values.now c.args.id in
    let text = text_spine spine.parts c.requires spine.end (sym c.in-Text.is ∙ c.form_of.ensures) in
    all_written c.args.output.now _ _ c.write_letters.new.output (enclosed 34 (letters spine.parts)) text
    c.in_ok-write_letters-in-Text.ensures.text

pub returns-in_ok-push-in-Sequence-clause-text : goal.returns-in_ok-push-in-Sequence-clause-text
returns-in_ok-push-in-Sequence-clause-text c =
    let values = c.args.values.now in
    let spine = spine_at values c.args.id in
    let text = sequence_spine spine.parts c.requires spine.end (sym c.in-Sequence.is ∙ c.form_of.ensures) in
    on_ok_weaker c.write_item.result
    (opened c.args.output.now (codes "[") (items_text spine.parts) (tasks_text values c.args.tasks.now) c.write_item.new.output
    (tasks_text values c.write_item.new.tasks) _ text _ c.in_ok-push-in-Sequence.ensures) c.write_item.ensures.text

pub returns-in_ok-push-in-Tuple-clause-text : goal.returns-in_ok-push-in-Tuple-clause-text
returns-in_ok-push-in-Tuple-clause-text c =
    let values = c.args.values.now in
    let spine = spine_at values c.args.id in
    let text = tuple_spine spine.parts spine.end c.requires (sym c.in-Tuple.is ∙ c.form_of.ensures) in
    on_ok_weaker c.write_part.result
    (opened c.args.output.now (codes "(") (parts_text spine.parts (end_text spine.end)) (tasks_text values c.args.tasks.now)
    c.write_part.new.output (tasks_text values c.write_part.new.tasks) _ text _ c.in_ok-push-in-Tuple.ensures)
    c.write_part.ensures.text
