use Rattle.std.proofs.Common.{◌++◌, ◌<◌, map, length, ap, ◌∙◌, arith}
use Rattle.std.specs.Prelude.{codes}
use Rattle.std.proofs.lemmas.List.{length-map}
use Rattle.std.proofs.lemmas.Result.{on_ok_weaker}
use Rattle.cd_model.specs.Canonical.{double_quoted}
use Rattle.cd_elements.specs.Elements.{table}
use Rattle.cd_elements.specs.Inner.Tasks.{part_in}
use Rattle.cd_elements.specs.Inner.Rows.{sequence_rest}
use Rattle.cd_elements.proofs.Letters.{letters_alone, not_all_letters}
use Rattle.cd_elements.proofs.Writes.{begun, all_written}
use Rattle.cd_elements.proofs.text.write_sequence.Goals as goal

-- all are characters
pub returns-in-Some : goal.returns-in-Some
returns-in-Some c =
    let all = table c.args.elements.now in
    let parts = map (part_in all) c.args.firsts.now in
    let some : 0 < length parts = omega (arith, length-map c.args.firsts.now (part_in all), c.requires) in
    let text = letters_alone parts c.in-Some.characters.items some (rw c.in-Some.is at c.in_ok-characters.ensures) in
    let bytes = ap (λ characters. c.args.output.now ++ double_quoted characters) c.as_slice.ensures.value in
    let written = all_written all _ _ _ _ (double_quoted c.in-Some.characters.items) text (omega arith) in
    on_ok_weaker c.push_quoted.result (λ output. written (output ∙ bytes)) c.push_quoted.ensures

-- one is no character
pub returns-in_ok-push_sequence-in-None : goal.returns-in_ok-push_sequence-in-None
returns-in_ok-push_sequence-in-None c =
    let all = table c.args.elements.now in
    let firsts = c.args.firsts.now in
    let text = not_all_letters (map (part_in all) firsts) (rw c.in-None.is at c.in_ok-characters.ensures) in
    let left = c.in_ok-push_sequence-in-None.ensures in
    let written = begun all _ _ _ _ (codes "[") (sequence_rest all firsts) _ text (omega arith) left in
    on_ok_weaker c.push.result written c.push.ensures
