-- Faults of the code as plain data.
use Rattle.std.specs.Prelude.{[], Option, Some, None}
use Rattle.std.specs.Option.{option_map}
use Rattle.cd_syntax.specs.Name.{Name}
use Rattle.cd_resolve.specs.Faults.{Fault}
use Rattle.cd_resolve.specs.declared.reported.Reported.{Reported}

abbrev pub name_or_none : Option Name → Name
name_or_none None = []
name_or_none (Some name) = name

abbrev pub plain_reported : Reported → Fault
plain_reported reported = record {
  fault = reported.fault;
  name = name_or_none (option_map (λ name. name.now) reported.name);
  at = reported.at;
}
