-- Fields in the order of their labels.
use Rattle.std.specs.Prelude.{List, [], ◌∷◌, false}
use Rattle.cd_sets.specs.declared.node_id.NodeId.{NodeId}
use Rattle.cd_syntax.specs.Name.{Name}
use Rattle.cd_model.specs.Formula.{Field}
use Rattle.cd_model.specs.SortedFields.{inserted}
use Rattle.cd_program.specs.Expr.{Fields, NoField, AField}

-- fields are inserted one after the other
abbrev pub sorted_over : {X : Type 0} → (sorted fields : List (Name × X)) → List (Name × X)
sorted_over sorted [] = sorted
sorted_over sorted (field ∷ fields) = sorted_over (inserted field sorted) fields

-- what a record type says of fields whose values are in these nodes: each has to be there
abbrev pub typed_fields : Fields → List NodeId → List (Name × Field)
typed_fields NoField ids = []
typed_fields (AField label at e rest) [] = []
typed_fields (AField label at e rest) (id ∷ ids) =
    (label, record { optional = false; type = id }) ∷ typed_fields rest ids
