-- The labels of some record types come before those of the types after them.
use Rattle.std.proofs.Common.{◌≡◌, refl, ap, List, [], ◌∷◌, ◌++◌, map}
use Rattle.cd_rules.specs.Clauses.{RecordType}
use Rattle.cd_rules.specs.Rows.{labels_after, labels_of}
use Rattle.cd_needs.specs.Inner.LabelsBefore.{labels_before}

pub labels_of_all : (types more : List RecordType) → labels_before types (labels_before more []) ≡ labels_of (types ++ more)
labels_of_all [] [] = refl
labels_of_all [] (type ∷ more) = ap (labels_after (map (λ field. field.0) type.named)) (labels_of_all [] more)
labels_of_all (type ∷ types) more = ap (labels_after (map (λ field. field.0) type.named)) (labels_of_all types more)
