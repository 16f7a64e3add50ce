-- Kernels in which several nodes are one: each node has a class, which is the number of its image,
-- and the image names the classes of the nodes that the node names.
use Rattle.std.specs.Prelude.{◌≡◌, ◌<◌, ℕ, List, map, length, Some, option_map}
use Rattle.std.specs.List.{slice_get}
use Rattle.cd_syntax.specs.Name.{Name}
use Rattle.cd_model.specs.AllOf.{AllOf}
use Rattle.cd_matching.specs.Kernel.{Kernel, KernelNode, KernelField, Present, Optional, Test, Bind}
use Rattle.cd_matching.specs.Kernel.{Put, Pair, Xml, Record, Both, First, Gather, leads_to}

module _ {T : Type 0} (class : ℕ → ℕ) where
  -- with the classes of the nodes that are named
  abbrev pub renamed_kind : KernelField T → KernelField T
  renamed_kind (Present node) = Present (class node)
  renamed_kind (Optional type) = Optional type

  abbrev pub renamed_field : Name × KernelField T → Name × KernelField T
  renamed_field field = (field.0, renamed_kind field.1)

  abbrev pub renamed : KernelNode T → KernelNode T
  renamed (Test type) = Test type
  renamed (Bind variable) = Bind variable
  renamed (Put variable constant) = Put variable constant
  renamed (Pair first second) = Pair (class first) (class second)
  renamed (Xml tag attributes content) = Xml (class tag) (class attributes) (class content)
  renamed (Record fields more) = Record (map renamed_field fields) more
  renamed (Both first second) = Both (class first) (class second)
  renamed (First first second) = First (class first) (class second)
  renamed (Gather variable first second) = Gather variable (class first) (class second)

-- where the thing stays the same, the node with this number leads to earlier ones
abbrev pub FallsFrom : {T : Type 0} → ℕ → KernelNode T → Type 0
FallsFrom number node = AllOf (λ next. next < number) (leads_to node)

abbrev pub IsFalling : {T : Type 0} → List (KernelNode T) → Type 0
IsFalling nodes =
    (number : ℕ) (node : KernelNode _) → slice_get nodes number ≡ Some node → FallsFrom number node

-- Nodes that are the images of others. A number that names no node has a class that names none
pub record AreImages {T : Type 0} (class : ℕ → ℕ) (nodes merged : List (KernelNode T)) : Type 0
  where
    pub images : (number : ℕ)
        → slice_get merged (class number) ≡ option_map (renamed class) (slice_get nodes number)
    pub each : (number : ℕ) → number < length merged
        → (of : ℕ) × (of < length nodes) × (class of ≡ number)
    pub falling : IsFalling nodes
    pub merged_falling : IsFalling merged

pub record IsImage {T : Type 0} (class : ℕ → ℕ) (kernel merged : Kernel T) : Type 0 where
  pub nodes : AreImages class kernel.nodes merged.nodes
  pub root : merged.root ≡ class kernel.root
  pub variables : merged.variables ≡ kernel.variables
