-- That the shapes of a table are sound has at most one proof, as a ghost field wants.
use Rattle.std.specs.Prelude.{List, [], ◌∷◌, ◌++◌, Option, Some, None}
use Rattle.std.proofs.Props.{props}
use Rattle.std.specs.Coded.{×_prop, Unit-prop}
use Rattle.cd_model.specs.AllOf.{AllOf}
use Rattle.cd_syntax.specs.Name.{Name, IsAbove}
use Rattle.cd_model.specs.Thing as thing
use Rattle.cd_model.specs.Thing.{Thing, IsAtom, IsRecord}
use Rattle.cd_model.specs.Formula.{AreRisingLabels}
use Rattle.cd_elements.specs.declared.shape.ElementId.{ElementId}
use Rattle.cd_elements.specs.declared.shape.Shape.{Shape}
use Rattle.cd_elements.specs.declared.shape.Shape.TheVariants.{Int, Char, Atom, Pair, Xml, Record}
use Rattle.cd_elements.specs.declared.shape.Shape.TheVariants.{Fun}
use Rattle.cd_elements.specs.Table.{Names, IsResult, IsShape, element_by, element_at}
use Rattle.cd_elements.specs.Sound.{IsRanged, AreShapes}

each_prop : {X : Type 0} (fact : X → Type 0) → ((one : X) → IsProp (fact one)) → (all : List X)
    → IsProp (AllOf fact all)
each_prop fact one [] = Unit-prop
each_prop fact one (first ∷ rest) = ×_prop (one first) (each_prop fact one rest)

above_prop : (before : Option Name) (label : Name) → IsProp (IsAbove before label)
above_prop None label = Unit-prop
above_prop (Some before) label = hlevel props

labels_prop : (before : Option Name) (parts : List (Name × ElementId))
    → IsProp (AreRisingLabels before parts)
labels_prop before [] = Unit-prop
labels_prop before (part ∷ parts) =
    hlevel (props, above_prop before part.0, labels_prop (Some part.0) parts)

result_prop : (table : List Thing) (id : Option ElementId) → IsProp (IsResult table id)
result_prop table None = Unit-prop
result_prop table (Some id) = hlevel props

atom_prop : (one : Thing) → IsProp (IsAtom one)
atom_prop (thing.Atom name) = Unit-prop
atom_prop _ = hlevel

record_prop : (one : Thing) → IsProp (IsRecord one)
record_prop (thing.Record fields) = Unit-prop
record_prop _ = hlevel

shape_prop : (table : List Thing) (shape : Shape) → IsProp (IsShape table shape)
shape_prop table (Int n) = Unit-prop
shape_prop table (Char c) = Unit-prop
shape_prop table (Atom name) = hlevel props
shape_prop table (Pair first second) = hlevel props
shape_prop table (Xml tag attributes content) =
    hlevel (props, atom_prop (element_at table tag), record_prop (element_at table attributes))
shape_prop table (Record parts) =
    ×_prop (labels_prop None parts)
    (each_prop (λ part. Names table part.1) (λ part. hlevel props) parts)
shape_prop table (Fun pairs) =
    each_prop (λ pair. Names table pair.0 × IsResult table pair.1)
    (λ pair. hlevel (props, result_prop table pair.1)) pairs

ranged_prop : (shape : Shape) → IsProp (IsRanged shape)
ranged_prop (Int n) = hlevel props
ranged_prop (Char c) = hlevel props
ranged_prop _ = Unit-prop

pub shapes_prop : (table : List Thing) (shapes : List Shape) → IsProp (AreShapes table shapes)
shapes_prop table [] = Unit-prop
shapes_prop table (shape ∷ shapes) =
    hlevel (
      shape_prop table shape,
      ranged_prop shape,
      shapes_prop (table ++ element_by table shape ∷ []) shapes,
    )
