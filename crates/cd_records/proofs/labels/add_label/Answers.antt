use Rattle.std.proofs.Common.{◌∙◌, ◌++◌, ◌∷◌, ap, sym, take, drop}
use Rattle.cd_needs.specs.PlainReasons.{plain_labels}
use Rattle.cd_records.specs.Inner.Labels.{inserted}
use Rattle.cd_records.proofs.LabelsPlaced.{insert_plain}
use Rattle.cd_records.proofs.labels.add_label.Goals as goal

-- the label stands at its place
pub returns-in_ok-insert-in-Some : goal.returns-in_ok-insert-in-Some
returns-in_ok-insert-in-Some c = let index = c.in-Some.index in
    ap plain_labels c.in_ok-insert-in-Some.ensures.items
    ∙ insert_plain c.args.labels.now.items index c.args.label
    ∙ ap (λ all. take index (plain_labels all) ++ c.args.label.now ∷ drop index (plain_labels all))
    (sym c.as_slice.ensures.value)
    ∙ sym c.in-Some.ensures.1
    ∙ ap (λ all. inserted c.args.label.now (plain_labels all)) c.as_slice.ensures.value
