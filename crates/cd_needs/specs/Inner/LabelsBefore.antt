-- Labels that are found from the last type on.
use Rattle.std.specs.Prelude.{List, [], ◌∷◌, map}
use Rattle.cd_syntax.specs.Name.{Name}
use Rattle.cd_rules.specs.Clauses.{RecordType}
use Rattle.cd_rules.specs.Rows.{labels_after}

-- the labels that record types name, each once, before these
abbrev pub labels_before : List RecordType → List Name → List Name
labels_before [] labels = labels
labels_before (type ∷ types) labels =
    labels_after (map (λ field. field.0) type.named) (labels_before types labels)
