-- Pairs of values that are left to be compared.
use Rattle.std.specs.Prelude.{◌≡◌, ℕ, ◌<◌, ◌≤◌, ◌+◌, Bool, ◌&&◌, List, [], ◌∷◌, length}
use Rattle.std.specs.List.{list_all}
use Rattle.cd_model.specs.AllOf.{AllOf}
use Rattle.cd_model.specs.Thing.{Thing, Pair, Xml, Record, Fields, NoField, Field}
use Rattle.cd_cells.specs.declared.cell.ValueId.{ValueId}
use Rattle.cd_cells.specs.Cells.{thing_at}
use Rattle.cd_evaluation.specs.Equality.{same}

-- both values are equal
abbrev pub same_at : List Thing → ValueId × ValueId → Bool
same_at table pair = same (thing_at table pair.0.0) (thing_at table pair.1.0)

-- so are those of all pairs
abbrev pub all_same : List Thing → List (ValueId × ValueId) → Bool
all_same table pairs = list_all (same_at table) pairs

abbrev pub AreComparable : List Thing → List (ValueId × ValueId) → Type 0
AreComparable table pairs =
    AllOf (λ pair. (pair.0.0 < length table) × (pair.1.0 < length table)) pairs

-- how much there is to compare
abbrev mutual
  pub weight : Thing → ℕ
  weight (Pair first second) = 1 + (weight first + weight second)
  weight (Xml tag attributes content) = 1 + (weight tag + (weight attributes + weight content))
  weight (Record fields) = 1 + weight_of_fields fields
  weight _ = 1

  pub weight_of_fields : Fields → ℕ
  weight_of_fields NoField = 0
  weight_of_fields (Field label v rest) = weight v + weight_of_fields rest

abbrev pub weight_of_pairs : List Thing → List (ValueId × ValueId) → ℕ
weight_of_pairs table [] = 0
weight_of_pairs table (pair ∷ pairs) =
    weight (thing_at table pair.0.0) + weight_of_pairs table pairs

-- Two things are equal where the answer says so and the pairs that were added are. What is added
-- weighs no more than this
pub record Adds (table : List Thing) (equal : Bool) (most : ℕ) (old new : List (ValueId × ValueId))
    (is : Bool) : Type 0 where
  pub answer : (is && all_same table new) ≡ (equal && all_same table old)
  pub comparable : AreComparable table new
  pub lighter : weight_of_pairs table new ≤ most + weight_of_pairs table old
