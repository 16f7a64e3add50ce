-- Nodes by their keys.
use Rattle.std.specs.Prelude.{◌≡◌, ℕ, List, Some, option_map}
use Rattle.std.specs.List.{slice_get}
use Rattle.cd_sets.specs.declared.node_id.NodeId.{NodeId}
use Rattle.cd_syntax.specs.declared.constant.Constant.TheVariants as constant
use Rattle.cd_matching.specs.Kernel.{KernelNode, Test, Bind, Put, Pair, Xml, Both, First, Gather}
use Rattle.cd_merged.specs.declared.key.Key.{Key}
use Rattle.cd_merged.specs.declared.key.Key.TheVariants as key
use Rattle.cd_merged.specs.Merged.{renamed}
use Rattle.cd_merged.specs.Inner.Classes.{class_of}

-- the node that a key stands for, which names classes
abbrev pub node_of : Key → KernelNode NodeId
node_of (key.Test type) = Test type
node_of (key.Bind variable) = Bind variable
node_of (key.PutNil variable) = Put variable constant.Nil
node_of (key.Pair first second) = Pair first second
node_of (key.Xml tag attributes content) = Xml tag attributes content
node_of (key.Both first second) = Both first second
node_of (key.First first second) = First first second
node_of (key.Gather variable first second) = Gather variable first second

-- the node with this number has this key
abbrev pub HasKey : List ℕ → List (KernelNode NodeId) → ℕ → Key → Type 0
HasKey numbers nodes number is =
    option_map (renamed (class_of numbers)) (slice_get nodes number) ≡ Some (node_of is)
