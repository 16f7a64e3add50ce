use Rattle.std.proofs.Common.{◌≡◌, [], map, drop}
use Rattle.cd_program.specs.Expr.{fields_of}
use Rattle.cd_program.specs.PlainExpr.{plain_field, plain_fields}
use Rattle.cd_names.specs.Inner.FindingInPrograms.{again, labels_of}
use Rattle.cd_names.specs.Inner.PlainFound.{plain_found}
use Rattle.cd_names.proofs.record.report_labels.Given as goal

-- to go on from here gives what the whole gives from the start
abbrev pub invariant-loop-field : goal.invariant-loop-field
invariant-loop-field l = again l.labels
    (labels_of (fields_of (map plain_field (drop l.field-index l.field-items))))
    (plain_found l.found)
    ≡ again [] (labels_of (plain_fields l.fn.fields)) (plain_found l.fn.found)
