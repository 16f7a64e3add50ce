-- Formulas that are made of trees and of nodes alone.
use Rattle.std.specs.Prelude.{ℕ, ℤ, List, [], ◌∷◌, Option, Some, None, int_le, nat_le}
use Rattle.std.specs.Prelude.{if◌then◌else◌}
use Rattle.std.specs.Option.{unwrap_or}
use Rattle.std.specs.Ordering.{nat_cmp}
use Rattle.std.specs.Cmp.Lexicographic.{slice_cmp}
use Rattle.std.specs.declared.cmp.Ordering.{Ordering}
use Rattle.std.specs.declared.cmp.Ordering.TheVariants.{Less, Equal, Greater}
use Rattle.cd_sets.specs.Atoms.{listing}
use Rattle.cd_sets.specs.declared.node_id.NodeId.{NodeId}
use Rattle.cd_syntax.specs.Integer.{LEAST, GREATEST}
use Rattle.cd_syntax.specs.Name.{Name}
use Rattle.cd_model.specs.Formula.{Formula, Field, Ints, Chars, Atoms, Pair, Arrow}

-- the integers, and the characters, from a low one to a high one, if there are such
abbrev pub integers : Option ℤ → Option ℤ → Option Formula
integers low high = if int_le (unwrap_or low LEAST) (unwrap_or high GREATEST)
    then Some
    (Ints (record { low = unwrap_or low LEAST; high = unwrap_or high GREATEST } ∷ [])) else None

abbrev pub characters : ℕ → ℕ → Option Formula
characters low high = if nat_le low high then Some
    (Chars (record { low = low; high = high } ∷ [])) else None

-- this atom alone
abbrev pub atom : Name → Formula
atom name = Atoms (listing (name ∷ []))

-- what a chain is made of: a tuple of pairs, and a chain of arrows of functions
pub data Joint : Type 0 where
  Pairs : Joint
  Arrows : Joint

abbrev pub joined : Joint → NodeId → NodeId → Formula
joined Pairs first second = Pair first second
joined Arrows first second = Arrow first second

-- a field among fields whose labels rise; one whose label stands there is left out
abbrev pub by_order : Ordering → Name × Field → Name × Field → List (Name × Field)
    → List (Name × Field) → List (Name × Field)
by_order Less field other rest later = field ∷ other ∷ rest
by_order Equal field other rest later = other ∷ rest
by_order Greater field other rest later = other ∷ later

abbrev pub inserted : Name × Field → List (Name × Field) → List (Name × Field)
inserted field [] = field ∷ []
inserted field (other ∷ rest) =
    by_order (slice_cmp nat_cmp field.0 other.0) field other rest (inserted field rest)

-- after these, whose labels rise, the fields one by one
abbrev pub sorted_after : List (Name × Field) → List (Name × Field) → List (Name × Field)
sorted_after sorted [] = sorted
sorted_after sorted (field ∷ rest) = sorted_after (inserted field sorted) rest

abbrev pub sorted : List (Name × Field) → List (Name × Field)
sorted fields = sorted_after [] fields
