-- The kernels of the code as plain data.
use Rattle.std.specs.Prelude.{List, map}
use Rattle.cd_sets.specs.declared.node_id.NodeId.{NodeId}
use Rattle.cd_syntax.specs.Name.{Name}
use Rattle.cd_matching.specs.Kernel.{Kernel, KernelNode, KernelField, Test, Bind, Put, Pair, Xml}
use Rattle.cd_matching.specs.Kernel.{Record, Both, First, Gather, Present, Optional}
use Rattle.cd_matching.specs.declared.kernel.FieldKind.{FieldKind}
use Rattle.cd_matching.specs.declared.kernel.FieldKind.TheVariants as kind
use Rattle.cd_matching.specs.declared.kernel.Kernel.{Kernel as CodeKernel}
use Rattle.cd_matching.specs.declared.kernel.KernelField.{KernelField as CodeField}
use Rattle.cd_matching.specs.declared.kernel.KernelNode.{KernelNode as CodeNode}
use Rattle.cd_matching.specs.declared.kernel.KernelNode.TheVariants as node

abbrev pub plain_kind : FieldKind → KernelField NodeId
plain_kind (kind.Present number) = Present number
plain_kind (kind.Optional type) = Optional type

abbrev pub plain_kernel_field : CodeField → Name × KernelField NodeId
plain_kernel_field field = (field.label, plain_kind field.kind)

abbrev pub plain_node : CodeNode → KernelNode NodeId
plain_node (node.Test type) = Test type
plain_node (node.Bind variable) = Bind variable
plain_node (node.Put variable constant) = Put variable constant
plain_node (node.Pair first second) = Pair first second
plain_node (node.Xml tag attributes content) = Xml tag attributes content
plain_node (node.Record fields more) = Record (map plain_kernel_field fields.items) more
plain_node (node.Both first second) = Both first second
plain_node (node.First first second) = First first second
plain_node (node.Gather variable first second) = Gather variable first second

abbrev pub plain_nodes : List CodeNode → List (KernelNode NodeId)
plain_nodes = map plain_node

abbrev pub plain_kernel : CodeKernel → Kernel NodeId
plain_kernel kernel = record {
  nodes = plain_nodes kernel.nodes.items;
  root = kernel.root;
  variables = kernel.variables.items;
}
