use Rattle.std.proofs.Common.{◌≡◌, ◌++◌, map, drop}
use Rattle.cd_matching.specs.PlainKernel.{plain_kernel_field}
use Rattle.cd_merged.specs.Inner.Classes.{class_of}
use Rattle.cd_merged.specs.Merged.{renamed_field}
use Rattle.cd_merged.proofs.renamed.renamed_fields.Given as goal

-- those that were gone over, and those that are left
abbrev pub invariant-loop-field : goal.invariant-loop-field
invariant-loop-field l = map plain_kernel_field l.all.items
    ++ map (renamed_field (class_of l.numbers))
    (map plain_kernel_field (drop l.field-index l.fields))
    ≡ map (renamed_field (class_of l.numbers)) (map plain_kernel_field l.fields)
