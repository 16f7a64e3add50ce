use Rattle.std.proofs.Common.{◌≡◌, [], map, drop}
use Rattle.cd_syntax.specs.TypeTree.{fields_of}
use Rattle.cd_syntax.specs.PlainTree.{plain_field, plain_fields}
use Rattle.cd_resolve.specs.Inner.Finding.{labelled}
use Rattle.cd_resolve.specs.Inner.PlainFound.{plain_found}
use Rattle.cd_resolve.proofs.record.report_labels.Given as goal

-- to go on from here gives what the whole gives from the start
abbrev pub invariant-loop-field : goal.invariant-loop-field
invariant-loop-field l = labelled l.seen
    (fields_of (map plain_field (drop l.field-index l.field-items))) (plain_found l.found)
    ≡ labelled [] (plain_fields l.fn.fields) (plain_found l.fn.found)
