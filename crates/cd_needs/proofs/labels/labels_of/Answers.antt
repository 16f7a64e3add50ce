use Rattle.std.proofs.Common.{◌∙◌, ap}
use Rattle.cd_needs.specs.RecordType.{record_types}
use Rattle.cd_needs.specs.Inner.LabelsBefore.{labels_before}
use Rattle.cd_needs.specs.PlainReasons.{plain_labels}
use Rattle.cd_needs.proofs.LabelsOfTypes.{labels_of_all}
use Rattle.cd_needs.proofs.labels.labels_of.Goals as goal

-- those of the refused types, and then those of the wanted ones before them
pub returns : goal.returns
returns c =
    let wanted = record_types c.args.wanted.now in let refused = record_types c.args.refused.now in
    c.in_ok-with_types.ensures ∙ ap (labels_before wanted) c.in_ok-labels.ensures
    ∙ ap (λ labels. labels_before wanted (labels_before refused (plain_labels labels))) c.new.ensures.items
    ∙ labels_of_all wanted refused
