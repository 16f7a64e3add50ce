-- What it is for an element to be in a written type, and for one type to be within another.
use Rattle.std.specs.Prelude.{true, false}
use Rattle.cd_model.specs.Thing.{Thing, IsElement}
use Rattle.cd_model.specs.Written.{Written, in_written}

abbrev pub IsIn : Thing → Written → Type 0
IsIn is type = in_written is type true

abbrev pub IsOutside : Thing → Written → Type 0
IsOutside is type = in_written is type false

-- each element of the first type is in the second
abbrev pub IsWithin : (first second : Written) → Type 0
IsWithin first second = (is : Thing) → IsElement is → IsIn is first → IsIn is second
