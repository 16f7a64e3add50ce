-- Chains: nodes that are joined in their order, two by two.
use Rattle.std.specs.Prelude.{◌≡◌, ℕ, List, [], ◌∷◌, ◌++◌, Some}
use Rattle.std.specs.List.{slice_get}
use Rattle.cd_matching.specs.Kernel.{KernelNode}

-- A chain of one node is that node. A chain of more joins a chain of the first of them and a chain
-- of the others
pub data IsChain {T : Type 0} (nodes : List (KernelNode T)) (joint : ℕ → ℕ → KernelNode T)
    : List ℕ → ℕ → Type 0 where
  one_node : (number : ℕ) → IsChain nodes joint (number ∷ []) number
  two_chains : (front back : List ℕ) (first second number : ℕ)
      → slice_get nodes number ≡ Some (joint first second) → IsChain nodes joint front first
      → IsChain nodes joint back second → IsChain nodes joint (front ++ back) number
