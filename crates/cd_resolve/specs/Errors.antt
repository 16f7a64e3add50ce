-- What an error says of the faults of a written type.
use Rattle.cd_resolve.specs.Faults.{Fault, IsReported}
use Rattle.cd_resolve.specs.declared.error.NameError.{NameError}
use Rattle.cd_resolve.specs.declared.error.NameError.TheVariants as error

-- it is the fault that is reported of those that are such; want of memory says nothing
abbrev pub IsReportedError : (IsSuch : Fault → Type 0) → NameError → Type 0
IsReportedError IsSuch (error.Fault fault name at) = IsReported IsSuch
    (record { fault = fault; name = name; at = at })
IsReportedError IsSuch error.Memory = Unit {0}
