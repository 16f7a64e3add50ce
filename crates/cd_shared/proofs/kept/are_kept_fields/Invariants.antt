use Rattle.std.proofs.Common.{◌≡◌, map, drop}
use Rattle.cd_graph.specs.PlainFormula.{plain_named}
use Rattle.cd_shared.specs.Shared.{class_in, renamed_field}
use Rattle.cd_shared.proofs.kept.are_kept_fields.Given as goal

-- all are the same where those are that are left
abbrev pub invariant-loop-field : goal.invariant-loop-field
invariant-loop-field l = map (renamed_field (class_in l.classes))
    (plain_named (drop l.field-index l.fields)) ≡ plain_named (drop l.field-index l.fields)
    → map (renamed_field (class_in l.classes)) (plain_named l.fields) ≡ plain_named l.fields
