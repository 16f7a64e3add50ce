-- What is explored so far.
use Rattle.std.specs.Prelude.{◌≡◌, ℕ, List, zero, map, length, take, Some}
use Rattle.std.specs.List.{slice_get}
use Rattle.cd_sets.specs.declared.node_id.NodeId.{NodeId}
use Rattle.cd_model.specs.AllOf.{AllOf}
use Rattle.cd_model.specs.Formula.{Graph}
use Rattle.cd_matching.specs.Kernel.{Kernel}
use Rattle.cd_filter.specs.Accepting.{place_of}
use Rattle.cd_filter.specs.Table.{Place, Step, Table}
use Rattle.cd_explored.specs.Explored.{IsPlace, IsSettledPlace}
use Rattle.cd_explored.specs.NextPlaces.{NextHas}
use Rattle.cd_explored.specs.Inner.NodeSteps.{IsInRange}
use Rattle.cd_explored.specs.Inner.NumberedSteps.{IsNumbered}
use Rattle.cd_explored.specs.Inner.PlainSteps.{AreEntries}
use Rattle.cd_explored.specs.declared.step.Step.{Step as CodeStep}

module _ (graph : Graph) (kernel : Kernel NodeId) (first : ℕ) where
  abbrev pub IsSettledAt : Place → List Step → Type 0
  IsSettledAt place steps =
      IsSettledPlace graph kernel (place_of kernel.nodes first) (place, steps)

  -- the steps settle a place, and lead to places of the kernel
  pub record AreSettling (place : Place) (steps : List Step) : Type 0 where
    pub settled : IsSettledAt place steps
    pub in_range : AllOf (NextHas (IsInRange (length graph) (length kernel.nodes))) steps

  -- the first places are settled, and the very first is the root's
  pub record IsExploring (root : Place) (places : List Place) (steps : List (List CodeStep))
      : Type 0 where
    pub table : Table
    pub entries : AreEntries places steps table
    pub first_ones : map (λ entry. entry.0) table ≡ take (length steps) places
    pub settled : AllOf (IsSettledPlace graph kernel (place_of kernel.nodes first)) table
    pub places_are : (place : Place) → IsNumbered places place → IsPlace graph kernel place
    pub rooted : slice_get places zero ≡ Some root
