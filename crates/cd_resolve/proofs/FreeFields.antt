-- What is read of fields that may be absent or anything.
use Rattle.std.proofs.Common.{◌≡◌, ℕ, true, List, [], ◌∷◌, ◌++◌, sym, ap, ◌∙◌, append_assoc}
use Rattle.std.proofs.lemmas.List.{append-nil}
use Rattle.cd_sets.specs.declared.node_id.NodeId.{NodeId}
use Rattle.cd_syntax.specs.Name.{Name}
use Rattle.cd_syntax.specs.TypeTree.{Tree, tree, Fields, NoField, AField}
use Rattle.cd_syntax.specs.WellMadePattern.{IsWellMadePattern, AreWellMadePatternFields}
use Rattle.cd_model.specs.BuiltIns.{ANY}
use Rattle.cd_model.specs.Formula.{Field}
use Rattle.cd_matching.specs.WrittenPattern.{free_fields, others_in}
use Rattle.cd_shared.specs.Equation.{Equations}
use Rattle.cd_resolve.specs.Inner.FreeFields.{free_named}
use Rattle.cd_resolve.specs.Inner.PlainState.{HaveLabels}
use Rattle.cd_resolve.specs.Inner.ScopeLevels.{ScopeLevels}
use Rattle.cd_resolve.specs.Inner.Walk.{Read, one_more, recorded, walked, walked_fields}

-- no equation is made
free_walked : (first : ℕ) (names : List (Name × NodeId)) (levels : ScopeLevels) (fields : Fields)
    (made : List (Name × Field)) (s : Equations)
    → walked_fields first names levels (free_fields fields) made s ≡ (made ++ free_named fields, s)
free_walked first names levels NoField made s =
    ap (λ (all : List (Name × Field)). (all, s)) (sym (append-nil made))
free_walked first names levels (AField label at optional (tree span kind) rest) made s =
    let next : Name × Field = (label, record { optional = true; type = ANY }) in
    free_walked first names levels rest (one_more made next) s
    ∙ ap (λ (all : List (Name × Field)). (all, s)) (append_assoc made (next ∷ []) (free_named rest))

-- so the records of a rest are read after the rest's tree
pub others_walked : (first : ℕ) (names : List (Name × NodeId)) (fields : Fields) (is : Tree) (s : Equations)
    (made : List (Name × Field)) (rest : Read) → made ≡ free_named fields → rest ≡ walked first names [] is s
    → recorded first made rest ≡ walked first names [] (others_in fields is) s
others_walked first names fields (tree span kind) s made rest free one =
    ap (λ (made : List (Name × Field)). recorded first made rest) free
    ∙ ap (recorded first (free_named fields)) one
    ∙ ap (λ (all : List (Name × Field) × Equations). recorded first all.0 (walked first names [] (tree span kind) all.1))
    (sym (free_walked first names [] fields [] s))

-- they have the labels that are written
pub free_labels : (fields : Fields) → AreWellMadePatternFields (free_fields fields) → HaveLabels (free_named fields)
free_labels NoField well = tt
free_labels (AField label at optional is rest) well = (well.0, free_labels rest well.2)

-- and are well made where the records of a rest are
pub others_made : (fields : Fields) (is : Tree) → IsWellMadePattern (others_in fields is)
    → AreWellMadePatternFields (free_fields fields)
others_made fields (tree span kind) well = well.0
