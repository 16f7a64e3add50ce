use Rattle.std.proofs.Common.{◌≡◌, ◌∙◌, ◌++◌, ◌∷◌, [], List, map, ap, sym, subst}
use Rattle.std.proofs.lemmas.List.{map-append}
use Rattle.cd_sets.specs.declared.question.Question.{Question}
use Rattle.cd_model.specs.Formula.{Graph}
use Rattle.cd_needs.specs.RecordTypes.{plain_row}
use Rattle.cd_empty.specs.Seen.{graph_of}
use Rattle.cd_records.specs.Inner.Plain.{plain_choice, plain_questions, plain_rest}
use Rattle.cd_records.specs.Inner.Rests.{Rest, rests_of_choices}
use Rattle.cd_records.specs.Inner.Saying.{with_questions}
use Rattle.cd_records.proofs.CellsThere.{adds_all, adds_choices}
use Rattle.cd_records.proofs.rests.add_rests.Goals as goal

pub returns-then-has_cell-clause-adds : goal.returns-then-has_cell-clause-adds
returns-then-has_cell-clause-adds c =
    let old = c.args.rests.now.items in
    adds_all (graph_of c.args.world.now) c.args.label.now (plain_row c.args.row.now)
    (map plain_rest old) (map plain_rest c.push.new.self.items)
    (sym c.has_cell.ensures ∙ c.if-has_cell.true)
    (plain_questions c.in_ok-left.left.items)
    (c.in_ok-left.ensures ∙ ap (λ (those : List Question). with_questions those [])
    c.items.ensures)
    (ap (map plain_rest) c.in_ok-push.ensures.items ∙ map-append plain_rest old _)

pub returns-clause-adds : goal.returns-clause-adds
returns-clause-adds c =
    let row = plain_row c.args.row.now in
    adds_choices (graph_of c.args.world.now) c.args.label.now row
    (map plain_rest c.args.rests.now.items) (map plain_rest c.add_choices.new.rests.items)
    (sym c.has_cell.ensures ∙ c.if-has_cell.false) (map plain_choice c.in_ok-choices.choices.items)
    c.in_ok-choices.ensures.choices
    (c.in_ok-add_choices.ensures ∙ ap (λ choices. map plain_rest c.args.rests.now.items
    ++ rests_of_choices row (map plain_choice choices)) c.as_slice.ensures.value)
