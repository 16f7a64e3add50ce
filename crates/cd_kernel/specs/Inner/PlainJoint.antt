-- How the nodes of a chain are joined, as plain data.
use Rattle.std.specs.Prelude.{ℕ}
use Rattle.cd_sets.specs.declared.node_id.NodeId.{NodeId}
use Rattle.cd_matching.specs.Kernel.{KernelNode, Both, First}
use Rattle.cd_kernel.specs.declared.chain.Joint.{Joint}
use Rattle.cd_kernel.specs.declared.chain.Joint.TheVariants as joint

abbrev pub plain_joint : Joint → ℕ → ℕ → KernelNode NodeId
plain_joint joint.Both = Both
plain_joint joint.First = First
