-- The record types of the code as record types of the rules.
use Rattle.std.specs.Prelude.{List, map}
use Rattle.std.specs.Borrow.{Bor}
use Rattle.cd_graph.specs.PlainFormula.{plain_named}
use Rattle.cd_graph.specs.declared.fields.Fields.{Fields}
use Rattle.cd_rules.specs.Clauses.{RecordType}

abbrev pub record_type : Fields → RecordType
record_type fields = record { named = plain_named fields.named; rest = fields.rest }

abbrev pub record_types : List (Bor Fields) → List RecordType
record_types types = map (λ fields. record_type fields.now) types
