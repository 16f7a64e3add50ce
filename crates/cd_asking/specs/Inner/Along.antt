-- Pairs in a row that are alike.
use Rattle.std.specs.Prelude.{◌<◌, ℕ, List, length}
use Rattle.cd_sets.specs.declared.node_id.NodeId.{NodeId}
use Rattle.cd_syntax.specs.Name.{Name}
use Rattle.cd_model.specs.Formula.{Graph}
use Rattle.cd_model.specs.Thing.{Thing}
use Rattle.cd_cells.specs.declared.cell.ValueId.{ValueId}
use Rattle.cd_asking.specs.Inner.Asked.{set_at, IsStep, Grows}
use Rattle.cd_asking.specs.Inner.Entries.{LeadBoth}
use Rattle.cd_asking.specs.Inner.Shapes.{Closed}
use Rattle.cd_asking.specs.declared.asker.Asker.{Asker}
use Rattle.cd_asking.specs.declared.asker.PairLeads.{PairLeads}
use Rattle.cd_asking.specs.declared.node_sets.SetId.{SetId}
use Rattle.cd_asking.specs.declared.task.Task.TheVariants.{OfPairs}
use Rattle.cd_asking.specs.declared.task.Next.{Next}
use Rattle.cd_asking.specs.declared.task.Next.TheVariants.{Ask}

-- a value is asked, which is the second part of the last of so many pairs that are asked at the
-- same set, and whose first parts are in these nodes
abbrev pub after_alike : (id : ValueId) (set first : SetId) (count : ℕ) → Next
after_alike id set first count = Ask id set (OfPairs set first count)

-- what is done next may be this in place of that, where sets and rows were added
abbrev pub GoesTo : List Name → Graph → Closed → List Thing → (old new : Asker) → (from to : Next)
    → Type 0
GoesTo names graph closed table old new from to = (nodes : List NodeId) (work : ℕ)
    → IsStep names graph closed table old nodes work from
    → IsStep names graph closed table new nodes work to

-- so many pairs were gone along, from a value to another one
pub record IsAlong (names : List Name) (graph : Graph) (closed : Closed) (table : List Thing)
    (start now : Asker) (leads : PairLeads) (first : SetId) (from id : ValueId) (count : ℕ)
    : Type 0 where
  pub within : id.0 < length table
  pub grows : Grows start now
  pub both : LeadBoth graph now.sets (set_at now.sets leads.second) leads
  pub below : first.0 < length now.sets
  pub goes : GoesTo names graph closed table start now (after_alike from leads.second first 1)
      (after_alike id leads.second first count)
