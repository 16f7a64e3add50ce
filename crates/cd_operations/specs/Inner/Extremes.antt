-- The least and the greatest of the integers of a sequence.
use Rattle.std.specs.Prelude.{◌≡◌, ◌<◌, ℤ, int_lt, Bool, List, length, Option, Some, None}
use Rattle.cd_model.specs.Thing.{Thing, Integer}
use Rattle.cd_cells.specs.Cells.{thing_at}
use Rattle.cd_evaluation.specs.Operations.{first_among}
use Rattle.cd_operations.specs.declared.extremes.Extreme.{Extreme}
use Rattle.cd_operations.specs.declared.extremes.Extreme.TheVariants.{Least, Greatest}
use Rattle.cd_operations.specs.declared.extremes.Number.{Number}

-- which of two integers comes first
abbrev pub precedes : Extreme → ℤ → ℤ → Bool
precedes Least = λ n m. int_lt n m
precedes Greatest = λ n m. int_lt m n

abbrev pub integer_of : Thing → Option ℤ
integer_of (Integer n) = Some n
integer_of _ = None

-- the first among an integer and the items of a sequence, if it is one
abbrev pub among : (ℤ → ℤ → Bool) → ℤ → Option (List Thing) → Option ℤ
among before n None = None
among before n (Some rest) = first_among before n rest

-- the value with its number is the integer
pub record IsNumberAt (table : List Thing) (number : Number) : Type 0 where
  pub within : number.id.0 < length table
  pub is : thing_at table number.id.0 ≡ Integer number.n

-- this is found among the values of the table
abbrev pub Finds : List Thing → Option ℤ → Option Number → Type 0
Finds table found None = found ≡ None
Finds table found (Some number) = IsNumberAt table number × (found ≡ Some number.n)
