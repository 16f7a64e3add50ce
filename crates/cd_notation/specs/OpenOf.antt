-- The labels of the forms that stand open.
use Rattle.std.specs.Prelude.{ℕ, List, map}
use Rattle.cd_notation.specs.declared.open_labels.OpenLabels.{OpenLabels}

-- by their numbers, the innermost ones last
abbrev pub labels : OpenLabels → List ℕ
labels open_labels = map (λ one. one.label) open_labels.open.items
