-- The kernel that is made of a pattern takes what the pattern takes.
use Rattle.std.proofs.Common.{◌≡◌, true, Option, Some, None, option_map, refl, ◌∙◌}
use Rattle.cd_sets.specs.declared.node_id.NodeId.{NodeId}
use Rattle.cd_syntax.specs.Name.{Name}
use Rattle.cd_matching.specs.Captures.{Captures}
use Rattle.cd_matching.specs.Kernel.{Kernel}
use Rattle.cd_matching.specs.Pattern.{Pattern}
use Rattle.cd_matching.specs.Take.{take}
use Rattle.cd_kernel.specs.Making.{the_types, IsMade, TakesAlike}
use Rattle.cd_kernel.proofs.KeptCaptures.{kept}
use Rattle.cd_kernel.proofs.KernelsTake.{kernels_take}

all_kept : (o : Option (Captures Name)) → option_map (kept (λ name. true)) o ≡ o
all_kept None = refl
all_kept (Some all) = refl

pub kernels_are_exact : (p : Pattern NodeId) (kernel : Kernel NodeId) → IsMade p kernel
    → TakesAlike p kernel
kernels_are_exact p kernel is_made test nil any empty d =
    kernels_take test the_types kernel.variables kernel.nodes
    (record { nil = nil; any = any; empty = empty; ends = is_made.ends }) (λ name. true) p
    kernel.root is_made.made d ∙ all_kept (take NodeId test p d)
