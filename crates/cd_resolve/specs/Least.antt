-- The fault that is reported of several.
use Rattle.std.specs.Prelude.{◌≡◌, ℕ, ◌==◌, nat_lt, Bool, true, false, ◌&&◌, ◌||◌, List, [], ◌∷◌}
use Rattle.std.specs.Prelude.{Option, Some, None}
use Rattle.std.specs.Prelude.{Result, Ok, Err, if◌then◌else◌}
use Rattle.cd_resolve.specs.Faults.{Fault, rank}
use Rattle.cd_resolve.specs.declared.error.NameError.{NameError}
use Rattle.cd_resolve.specs.declared.fault.NameFault.{NameFault}
use Rattle.cd_resolve.specs.declared.error.NameError.TheVariants as error

-- what stands here is reported rather than what stands there
abbrev pub comes_first : (at : ℕ) → NameFault → (there : ℕ) → NameFault → Bool
comes_first at fault there other = nat_lt at there || at == there
    && nat_lt (rank fault) (rank other)

abbrev pub goes_before : Fault → Fault → Bool
goes_before one other = comes_first one.at one.fault other.at other.fault

abbrev pub lesser : Option Fault → Fault → Option Fault
lesser None one = Some one
lesser (Some least) one = if goes_before one least then Some one else Some least

abbrev pub least_from : Option Fault → List Fault → Option Fault
least_from least [] = least
least_from least (one ∷ rest) = least_from (lesser least one) rest

-- the error is this fault; want of memory says nothing
abbrev pub IsLeast : Option Fault → NameError → Type 0
IsLeast least (error.Fault fault name at) = least
    ≡ Some (record { fault = fault; name = name; at = at })
IsLeast least error.Memory = Unit {0}

-- of two errors want of memory is reported, or else the fault that goes before
abbrev pub goes_first : NameError → NameError → Bool
goes_first error.Memory other = true
goes_first (error.Fault fault name at) error.Memory = false
goes_first (error.Fault fault name at) (error.Fault other other_name there) =
    comes_first at fault there other

abbrev pub first_error : NameError → NameError → NameError
first_error one other = if goes_first other one then other else one

abbrev pub first_of : Result (Unit {0}) NameError → Result (Unit {0}) NameError
    → Result (Unit {0}) NameError
first_of (Ok done) other = other
first_of (Err one) (Ok done) = Err one
first_of (Err one) (Err other) = Err (first_error one other)
