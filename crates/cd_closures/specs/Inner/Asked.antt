-- Arrows that are asked, and what the answer to one says.
use Rattle.std.specs.Prelude.{◌≡◌, ℕ, ◌<◌, Bool, true, false, length}
use Rattle.cd_sets.specs.declared.node_id.NodeId.{NodeId}
use Rattle.cd_model.specs.Formula.{Graph, Arrow, formula_at, IsIn}
use Rattle.cd_model.specs.Membership.{holds, reader}
use Rattle.cd_model.specs.Thing.{Thing, IsElement}
use Rattle.cd_closures.specs.declared.arrow.NodeArrow.{NodeArrow}
use Rattle.cd_closures.specs.declared.asked.Asked.{Asked}

-- an arrow between some of the first nodes
abbrev pub IsBelow : (count : ℕ) → NodeArrow → Type 0
IsBelow count arrow = (arrow.argument.0 < count) × (arrow.result.0 < count)

-- its node holds just what is in the arrow
pub record IsAsked (graph : Graph) (one : Asked) : Type 0 where
  pub is_node : one.node.0 < length graph
  pub formula : formula_at graph one.node ≡ Arrow one.arrow.argument one.arrow.result

-- whether all elements of a node are in the arrow
abbrev pub AllIn : Graph → (whole : NodeId) → NodeArrow → Type 0
AllIn graph whole arrow = (e : Thing) → IsElement e → IsIn graph e whole
    → holds (reader graph e) (Arrow arrow.argument arrow.result) true

abbrev pub Decides : Graph → (whole : NodeId) → NodeArrow → Bool → Type 0
Decides graph whole arrow true = AllIn graph whole arrow
Decides graph whole arrow false = AllIn graph whole arrow → ⊥
