-- Fields that may be absent or anything, by their labels.
use Rattle.std.specs.Prelude.{true, List, [], ◌∷◌}
use Rattle.cd_syntax.specs.Name.{Name}
use Rattle.cd_syntax.specs.TypeTree.{Fields, NoField, AField}
use Rattle.cd_model.specs.BuiltIns.{ANY}
use Rattle.cd_model.specs.Formula.{Field}

abbrev pub free_named : Fields → List (Name × Field)
free_named NoField = []
free_named (AField label at optional is rest) =
    (label, record { optional = true; type = ANY }) ∷ free_named rest
