-- The labels of the fields of a record expression.
use Rattle.std.specs.Prelude.{◌≢◌, List, [], ◌∷◌}
use Rattle.cd_syntax.specs.Name.{Name, IsLabel}
use Rattle.cd_model.specs.AllOf.{AllOf}
use Rattle.cd_program.specs.Expr.{Fields, NoField, AField}

abbrev pub labels_of : Fields → List Name
labels_of NoField = []
labels_of (AField label at e rest) = label ∷ labels_of rest

-- each is a label
abbrev pub AreLabels : Fields → Type 0
AreLabels fields = AllOf IsLabel (labels_of fields)

-- no name stands twice
abbrev pub AreOnce : List Name → Type 0
AreOnce [] = Unit {0}
AreOnce (name ∷ names) = AllOf (λ other. name ≢ other) names × AreOnce names
