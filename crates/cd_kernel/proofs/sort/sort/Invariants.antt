use Rattle.std.proofs.Common.{◌≡◌, [], length}
use Rattle.cd_kernel.specs.Inner.Building.{sorted_over}
use Rattle.cd_kernel.specs.Inner.PlainSteps.{plain_kernel_fields}
use Rattle.cd_kernel.proofs.sort.sort.Given as goal

-- what is left, put among what was put, gives all in order
abbrev pub invariant-loop-field : goal.invariant-loop-field
invariant-loop-field l =
    sorted_over (plain_kernel_fields l.left.items) (plain_kernel_fields l.all.items)
    ≡ sorted_over (plain_kernel_fields l.fn.fields.items) []

abbrev pub decreases-loop-field : goal.decreases-loop-field
decreases-loop-field l = length l.left.items
