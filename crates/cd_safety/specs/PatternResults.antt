-- Results of patterns at related things: both fail, or both take, with related captures.
use Rattle.std.specs.Prelude.{Option, Some, None}
use Rattle.cd_syntax.specs.Name.{Name}
use Rattle.cd_model.specs.Interfaces.{Interfaces}
use Rattle.cd_model.specs.Formula.{Graph}
use Rattle.cd_model.specs.Thing.{Thing, IsElement, IsValue}
use Rattle.cd_matching.specs.Captures.{Captures}
use Rattle.cd_safety.specs.StandsIn.{StandsIn}

abbrev pub AreBoth : {X Y : Type 0} → (X → Y → Type 0) → Option X → Option Y → Type 0
AreBoth Are None None = Unit {0}
AreBoth Are (Some x) (Some y) = Are x y
AreBoth Are one other = ⊥

-- each name captures related things, or nothing on both sides
abbrev pub CapturesRelated : (Thing → Thing → Type 0) → Captures Name → Captures Name → Type 0
CapturesRelated Are captures others = (name : Name) → AreBoth Are (captures name) (others name)

abbrev pub ResultsRelated : (Thing → Thing → Type 0) → Option (Captures Name)
    → Option (Captures Name) → Type 0
ResultsRelated Are = AreBoth (CapturesRelated Are)

-- an element in the place of a value
pub record IsStandIn (graph : Graph) (interfaces : Interfaces) (v e : Thing) : Type 0 where
  pub is_value : IsValue v
  pub is_element : IsElement e
  pub stands : StandsIn graph interfaces v e
