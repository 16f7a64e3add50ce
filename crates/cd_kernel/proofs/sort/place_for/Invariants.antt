use Rattle.std.proofs.Common.{◌≡◌, ◌++◌, take, drop}
use Rattle.cd_model.specs.SortedFields.{inserted}
use Rattle.cd_matching.specs.PlainKernel.{plain_kernel_field}
use Rattle.cd_kernel.specs.Inner.PlainSteps.{plain_kernel_fields}
use Rattle.cd_kernel.proofs.sort.place_for.Given as goal

-- the field belongs among what is left
abbrev pub invariant-loop-index : goal.invariant-loop-index
invariant-loop-index l = inserted (plain_kernel_field l.field) (plain_kernel_fields l.sorted)
    ≡ plain_kernel_fields (take l.index l.sorted)
    ++ inserted (plain_kernel_field l.field) (plain_kernel_fields (drop l.index l.sorted))
