-- Labels and reasons of the code as plain data.
use Rattle.std.specs.Prelude.{List, map}
use Rattle.std.specs.Borrow.{Bor}
use Rattle.std.specs.Option.{option_map}
use Rattle.cd_syntax.specs.Name.{Name}
use Rattle.cd_needs.specs.RecordType.{record_type}
use Rattle.cd_rules.specs.Clauses.{RecordType}
use Rattle.cd_rules.specs.Rows.{Reason, Reasons}
use Rattle.cd_needs.specs.declared.reasons.Chosen.{Chosen}

abbrev pub plain_labels : List (Bor Name) → List Name
plain_labels labels = map (λ label. label.now) labels

abbrev pub plain_chosen : Chosen → RecordType × Reason
plain_chosen one = (record_type one.refused.now, option_map (λ label. label.now) one.reason)

abbrev pub plain_reasons : List Chosen → Reasons
plain_reasons reasons = map plain_chosen reasons
