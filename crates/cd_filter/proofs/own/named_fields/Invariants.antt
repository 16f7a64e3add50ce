use Rattle.std.proofs.Common.{◌≡◌, ◌++◌, map, drop}
use Rattle.cd_graph.specs.PlainFormula.{plain_named}
use Rattle.cd_matching.specs.PlainKernel.{plain_kernel_field}
use Rattle.cd_filter.specs.Accepting.{fields_of}
use Rattle.cd_filter.proofs.own.named_fields.Given as goal

-- the fields so far and those of the ones that are left are all
abbrev pub invariant-loop-field : goal.invariant-loop-field
invariant-loop-field l = (plain_named l.named.items
    ++ fields_of l.first (map plain_kernel_field (drop l.field-index l.fields)))
    ≡ fields_of l.first (map plain_kernel_field l.fields)
