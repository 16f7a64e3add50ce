-- Entries of one function, or of all that are not listed, in a table of arrows.
use Rattle.std.specs.Prelude.{◌≡◌, ℕ, Bool, true, false, List, Option, nat_eq, ◌⊎◌}
use Rattle.std.specs.Option.{option_eq}
use Rattle.cd_sets.specs.declared.node_id.NodeId.{NodeId}
use Rattle.cd_model.specs.AllOf.{AllOf}
use Rattle.cd_model.specs.Formula.{Graph}
use Rattle.cd_model.specs.Scope.{Scope}
use Rattle.cd_program.specs.Expr.{Signature}
use Rattle.cd_asking.specs.MappedArrows.{has_entry, AddsEntry}
use Rattle.cd_asking.specs.Mappings.{Mappings}
use Rattle.cd_asking.specs.declared.mapped.Mapped.{Mapped}
use Rattle.cd_closures.specs.Inner.Asked.{AllIn, Decides}
use Rattle.cd_closures.specs.Inner.Wholes.{IsRight}
use Rattle.cd_closures.specs.declared.arrow.NodeArrow.{NodeArrow}
use Rattle.cd_closures.specs.declared.asked.Asked.{Asked}

abbrev pub entry : Option ℕ → NodeArrow → Mapped
entry key arrow =
    record { function = key; argument = arrow.argument; result = arrow.result }

abbrev pub has : Mappings → Option ℕ → NodeArrow → Bool
has maps key arrow = has_entry maps (entry key arrow)

abbrev pub HasNone : Option ℕ → Mappings → Type 0
HasNone key maps = (arrow : NodeArrow) → has maps key arrow ≡ false

-- entries were added of this function alone
pub record AddsOf (key : Option ℕ) (old new : Mappings) : Type 0 where
  pub others : (other : Option ℕ) → option_eq nat_eq key other ≡ false → (arrow : NodeArrow)
      → has new other arrow ≡ has old other arrow
  pub functions : new.functions ≡ old.functions

-- one arrow was decided, and has an entry where all elements of a node are in it
abbrev pub IsDecided : Graph → (whole : NodeId) → Option ℕ → NodeArrow → (old new : Mappings)
    → Type 0
IsDecided graph whole key arrow old new =
    (AllIn graph whole arrow × AddsEntry (entry key arrow) old new)
    ⊎ ((AllIn graph whole arrow → ⊥) × (new ≡ old))

-- each entry is of an arrow that all elements of a node are in, and each of these arrows that has
-- none is one that they are not all in
pub record AreAdded (graph : Graph) (whole : NodeId) (key : Option ℕ) (asked : List Asked)
    (old new : Mappings) : Type 0 where
  pub sound : (arrow : NodeArrow) → has new key arrow ≡ true → AllIn graph whole arrow
  pub complete : AllOf (λ one. has new key one.arrow ≡ false → AllIn graph whole one.arrow → ⊥)
      asked
  pub adds : AddsOf key old new

-- the table decides these arrows
abbrev pub AreDecided : Graph → (whole : NodeId) → Option ℕ → List Asked → Mappings → Type 0
AreDecided graph whole key asked maps =
    AllOf (λ one. Decides graph whole one.arrow (has maps key one.arrow)) asked

-- and says of each whether the closures of a function with this interface are in it
abbrev pub AreRight : Graph → Scope → List Signature → Option ℕ → List Asked → Mappings → Type 0
AreRight graph scope interface key asked maps = AllOf (λ one. IsRight scope graph interface
    one.arrow.argument one.arrow.result (has maps key one.arrow)) asked
