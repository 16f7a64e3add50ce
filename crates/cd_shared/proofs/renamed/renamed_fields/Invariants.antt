use Rattle.std.proofs.Common.{◌≡◌, ◌++◌, map, drop}
use Rattle.cd_graph.specs.PlainFormula.{plain_named}
use Rattle.cd_shared.specs.Shared.{class_in, renamed_field}
use Rattle.cd_shared.proofs.renamed.renamed_fields.Given as goal

-- those that were gone over, and those that are left
abbrev pub invariant-loop-label : goal.invariant-loop-label
invariant-loop-label l = plain_named l.images.items
    ++ map (renamed_field (class_in l.classes)) (plain_named (drop l.label-index l.fields))
    ≡ map (renamed_field (class_in l.classes)) (plain_named l.fields)
