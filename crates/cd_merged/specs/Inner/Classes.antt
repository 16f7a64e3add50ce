-- Classes of nodes, as the code has them: a number for each node, and the first node of each class.
use Rattle.std.specs.Prelude.{◌≡◌, ◌<◌, ◌≤◌, ◌⊎◌, ℕ, List, [], ◌∷◌, length, Option, Some, None}
use Rattle.std.specs.Prelude.{option_map}
use Rattle.std.specs.List.{slice_get}
use Rattle.std.specs.Option.{unwrap_or}
use Rattle.cd_matching.specs.Kernel.{Kernel, KernelNode}
use Rattle.cd_merged.specs.Merged.{renamed, FallsFrom, AreImages, IsImage}

-- the class of the node with this number
abbrev pub class_of : List ℕ → ℕ → ℕ
class_of numbers number = unwrap_or (slice_get numbers number) (length numbers)

-- the nodes with these numbers
abbrev pub with_node : {X : Type 0} → Option X → List X → List X
with_node None others = others
with_node (Some node) others = node ∷ others

abbrev pub nodes_at : {X : Type 0} → List X → List ℕ → List X
nodes_at nodes [] = []
nodes_at nodes (number ∷ numbers) = with_node (slice_get nodes number) (nodes_at nodes numbers)

-- the node with this number, if there is one, leads to earlier ones
abbrev pub FallsIn : {T : Type 0} → ℕ → Option (KernelNode T) → Type 0
FallsIn number None = Unit {0}
FallsIn number (Some node) = FallsFrom number node

-- two nodes are one, but for the classes of the nodes that they name
abbrev pub AreOne : {T : Type 0} → List ℕ → List (KernelNode T) → (one other : ℕ) → Type 0
AreOne numbers nodes one other = option_map (renamed (class_of numbers)) (slice_get nodes one)
    ≡ option_map (renamed (class_of numbers)) (slice_get nodes other)

-- a class has a first node, whose class it is
abbrev pub HasFirst : (count : ℕ) → (numbers firsts : List ℕ) → (class : ℕ) → Type 0
HasFirst count numbers firsts class = (first : ℕ) × (slice_get firsts class ≡ Some first)
    × (class_of numbers first ≡ class) × (first < count)

-- a node is the first one of its class
abbrev pub IsFirst : {T : Type 0} → List (KernelNode T) → (numbers firsts : List ℕ) → ℕ → Type 0
IsFirst nodes numbers firsts number = (first : ℕ)
    × (slice_get firsts (class_of numbers number) ≡ Some first)
    × AreOne numbers nodes number first

pub record AreClasses {T : Type 0} (nodes : List (KernelNode T)) (numbers firsts : List ℕ) : Type 0
  where
    pub numbered : length numbers ≡ length nodes
    pub fewer : length firsts ≤ length nodes
    pub firsts_are : (class : ℕ) → class < length firsts
        → HasFirst (length nodes) numbers firsts class
    pub nodes_are : (number : ℕ) → number < length nodes → IsFirst nodes numbers firsts number

-- some nodes are the images of others
abbrev pub AreMerged : {T : Type 0} → List (KernelNode T) → List ℕ → List (KernelNode T) → Type 0
AreMerged nodes numbers merged = AreImages (class_of numbers) nodes merged

-- a kernel is another one's image, or that one itself
abbrev pub IsMerged : {T : Type 0} → (kernel merged : Kernel T) → Type 0
IsMerged kernel merged = (merged ≡ kernel) ⊎ ((class : ℕ → ℕ) × IsImage class kernel merged)
