-- The fields of a well made list of fields have labels.
use Rattle.std.proofs.Common.{ℕ, List}
use Rattle.cd_sets.specs.declared.node_id.NodeId.{NodeId}
use Rattle.cd_syntax.specs.Name.{Name, IsLabel}
use Rattle.cd_syntax.specs.TypeTree.{Fields, NoField, AField}
use Rattle.cd_syntax.specs.WellMadePattern.{AreWellMadePatternFields}
use Rattle.cd_model.specs.Formula.{Field}
use Rattle.cd_shared.specs.Equation.{Equations}
use Rattle.cd_resolve.specs.Inner.ScopeLevels.{ScopeLevels}
use Rattle.cd_resolve.specs.Inner.PlainState.{HaveLabels}
use Rattle.cd_resolve.specs.Inner.Walk.{walked, walked_fields, one_more}
use Rattle.cd_resolve.proofs.MembersKept.{each_more}

pub walked_labels : (first : ℕ) (names : List (Name × NodeId)) (levels : ScopeLevels) (fields : Fields)
    (made : List (Name × Field)) (s : Equations) → AreWellMadePatternFields fields
    → HaveLabels made
    → HaveLabels (walked_fields first names levels fields made s).0
walked_labels first names levels NoField made s well labels = labels
walked_labels first names levels (AField label at optional is rest) made s well labels =
    walked_labels first names levels rest
    (one_more made (label, record { optional = optional; type = (walked first names levels is s).0 }))
    (walked first names levels is s).1 well.2
    (each_more (λ field. IsLabel field.0) made
    (label, record { optional = optional; type = (walked first names levels is s).0 }) labels well.0)
