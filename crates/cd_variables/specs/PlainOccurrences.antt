-- Occurrences of the code as plain data.
use Rattle.cd_syntax.specs.Name.{Name}
use Rattle.cd_variables.specs.Occurrences.{Occurrence}
use Rattle.cd_variables.specs.declared.occurrence.Occurrence.{Occurrence as CodeOccurrence}

abbrev pub plain_occurrence : CodeOccurrence → Occurrence
plain_occurrence one = record { name = one.name.now; at = one.at }

-- the name that occurs
abbrev pub occurring : CodeOccurrence → Name
occurring one = one.name.now
