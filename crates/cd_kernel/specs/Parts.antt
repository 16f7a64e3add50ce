-- The nodes of a kernel that are parts of what is made of patterns.
use Rattle.std.specs.Prelude.{◌≡◌, ◌<◌, ℕ, Bool, true, List, [], ◌++◌, length, Some}
use Rattle.std.specs.List.{slice_get}
use Rattle.cd_syntax.specs.Name.{Name}
use Rattle.cd_model.specs.AllOf.{AllOf, AnyOf}
use Rattle.cd_matching.specs.Kernel.{Kernel, KernelNode, leads_to, parts_of}
use Rattle.cd_matching.specs.Naming.{IsNamed}
use Rattle.cd_matching.specs.Pattern.{Pattern, Regular, Sequence}
use Rattle.cd_matching.specs.Variables.{binds}
use Rattle.cd_kernel.specs.Alternatives.{HasAlternatives}
use Rattle.cd_moves.specs.Automaton.{ItemOf, items_of}
use Rattle.cd_kernel.specs.Copies.{Types, IsAt, IsNumber, Copy}
use Rattle.cd_kernel.specs.Making.{inner, AreCopies, IsKernelOf, AreItemsOf}
use Rattle.cd_kernel.specs.WellMade.{IsWellMade}

module _ {T : Type 0} (IsType : T → Type 0) (types : Types T) (variables : List Name)
    (nodes : List (KernelNode T)) where
  pub data IsPart : ℕ → Type 0 where
    -- what is made of a pattern
    made : (keeps : Name → Bool) (p : Pattern T) (number : ℕ)
        → IsKernelOf types variables nodes keeps p number → IsNamed p → IsWellMade IsType p
        → HasAlternatives p → IsPart number
    -- the state after an item in a copy of what is made of a sequence
    state : (keeps : Name → Bool) (r : Regular T) (copies : List Copy) (copy : Copy)
        (root place number : ℕ) (of : ItemOf T)
        → AreCopies types variables nodes keeps r copies root
        → AllOf (λ other. AreItemsOf types variables nodes (inner keeps r other) other.items r 0)
        copies → IsNamed (Sequence r) → IsWellMade IsType (Sequence r)
        → HasAlternatives (Sequence r)
        → AnyOf (λ other. other ≡ copy) copies → slice_get (items_of [] r) place ≡ Some of
        → slice_get copy.states place ≡ Some number
        → IsPart number
    -- a node that a part leads to
    next : (number next_number : ℕ) (node : KernelNode T) → IsPart number
        → IsAt nodes number node
        → AnyOf (λ other. other ≡ next_number) (leads_to node ++ parts_of node)
        → IsPart next_number

-- no node is there that is no part, and no variable that does not stand in the pattern
pub record HasNoMore {T : Type 0} (IsType : T → Type 0) (types : Types T) (p : Pattern T)
    (kernel : Kernel T) : Type 0 where
  pub parts : (number : ℕ) → number < length kernel.nodes
      → IsPart IsType types kernel.variables kernel.nodes number
  pub variables : (variable : ℕ) → variable < length kernel.variables
      → (name : Name) × IsNumber kernel.variables name variable × (binds p name ≡ true)
