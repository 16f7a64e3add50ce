-- A table only grows, so what its shapes stand for stays, and each of its elements is one of the model.
use Rattle.std.proofs.Common.{◌≡◌, ℕ, zero, suc, ◌+◌, ◌<◌, List, [], ◌∷◌, ◌++◌, Option, Some, None, length, get_or, slice_get, refl, ap}
use Rattle.std.proofs.Common.{sym, ◌∙◌, subst, append_assoc, append-nil, length-append, arith}
use Rattle.std.specs.Prelude.{IfSome}
use Rattle.std.proofs.lemmas.List.{get_or_append_left, get_or_at, length_push}
use Rattle.std.proofs.lemmas.Option.{slice_get_within, get_or_from_slice_get}
use Rattle.cd_model.specs.AllOf.{AllOf}
use Rattle.cd_syntax.specs.Name.{Name}
use Rattle.cd_model.specs.Thing as thing
use Rattle.cd_model.specs.Thing.{Thing, Fields, Pairs, NoField, IsAtom, IsRecord, IsElement, AreFields, ArePairs}
use Rattle.cd_model.specs.Formula.{AreRisingLabels}
use Rattle.cd_elements.specs.declared.shape.ElementId.{ElementId}
use Rattle.cd_elements.specs.declared.shape.Shape.{Shape}
use Rattle.cd_elements.specs.declared.shape.Shape.TheVariants.{Int, Char, Atom, Pair, Xml, Record, Fun}
use Rattle.cd_elements.specs.Table.{element_at, fields_of, pair_before, result_at, pairs_of, element_by, Names, IsResult}
use Rattle.cd_elements.specs.Table.{IsShape, ArePartsBelow, IsResultBelow, elements_from}
use Rattle.cd_elements.specs.Sound.{IsRanged, AreShapes}

-- more shapes after some
pub from_append : (table : List Thing) (shapes more : List Shape)
    → elements_from table (shapes ++ more) ≡ elements_from (elements_from table shapes) more
from_append table [] more = refl
from_append table (shape ∷ shapes) more = from_append (table ++ element_by table shape ∷ []) shapes more

pub length_from : (table : List Thing) (shapes : List Shape)
    → length (elements_from table shapes) ≡ length table + length shapes
length_from table [] = omega arith
length_from table (shape ∷ shapes) =
    let rest = length_from (table ++ element_by table shape ∷ []) shapes in
    let one = length_push table (element_by table shape) in
    omega arith

-- what stands in a table stands there when it has grown
at_grown : (table more : List Thing) (id : ElementId) → Names table id → element_at (table ++ more) id ≡ element_at table id
at_grown table more id is = get_or_append_left table more (thing.Atom []) id.0 is

in_grown : (table more : List Thing) (id : ElementId) → Names table id → Names (table ++ more) id
in_grown table more id is = omega (arith, length-append table more)

fields_grown : (table more : List Thing) (parts : List (Name × ElementId)) → AllOf (λ part. Names table part.1) parts
    → fields_of (table ++ more) parts ≡ fields_of table parts
fields_grown table more [] are = refl
fields_grown table more (part ∷ parts) are =
    cc (at_grown table more part.1 are.0, fields_grown table more parts are.1)

result_grown : (table more : List Thing) (id : Option ElementId) → IsResult table id
    → result_at (table ++ more) id ≡ result_at table id
result_grown table more None is = refl
result_grown table more (Some id) is = ap Some (at_grown table more id is)

pairs_grown : (table more : List Thing) (pairs : List (ElementId × Option ElementId))
    → AllOf (λ pair. Names table pair.0 × IsResult table pair.1) pairs
    → pairs_of (table ++ more) pairs ≡ pairs_of table pairs
pairs_grown table more [] are = refl
pairs_grown table more (pair ∷ pairs) are =
    cc (at_grown table more pair.0 are.0.0, result_grown table more pair.1 are.0.1, pairs_grown table more pairs are.1)

pub element_grown : (table more : List Thing) (shape : Shape) → IsShape table shape
    → element_by (table ++ more) shape ≡ element_by table shape
element_grown table more (Int n) is = refl
element_grown table more (Char c) is = refl
element_grown table more (Atom name) is = refl
element_grown table more (Pair first second) is = cc (at_grown table more first is.0, at_grown table more second is.1)
element_grown table more (Xml tag attributes content) is =
    cc (at_grown table more tag is.0, at_grown table more attributes is.1, at_grown table more content is.2)
element_grown table more (Record parts) is = ap thing.Record (fields_grown table more parts is.1)
element_grown table more (Fun pairs) is = ap thing.Function (pairs_grown table more pairs is)

parts_grown : (table more : List Thing) (parts : List (Name × ElementId)) → AllOf (λ part. Names table part.1) parts
    → AllOf (λ part. Names (table ++ more) part.1) parts
parts_grown table more [] are = tt
parts_grown table more (part ∷ parts) are = (in_grown table more part.1 are.0, parts_grown table more parts are.1)

is_result_grown : (table more : List Thing) (id : Option ElementId) → IsResult table id → IsResult (table ++ more) id
is_result_grown table more None is = tt
is_result_grown table more (Some id) is = in_grown table more id is

are_pairs_grown : (table more : List Thing) (pairs : List (ElementId × Option ElementId))
    → AllOf (λ pair. Names table pair.0 × IsResult table pair.1) pairs
    → AllOf (λ pair. Names (table ++ more) pair.0 × IsResult (table ++ more) pair.1) pairs
are_pairs_grown table more [] are = tt
are_pairs_grown table more (pair ∷ pairs) are =
    ((in_grown table more pair.0 are.0.0, is_result_grown table more pair.1 are.0.1), are_pairs_grown table more pairs are.1)

pub shape_grown : (table more : List Thing) (shape : Shape) → IsShape table shape → IsShape (table ++ more) shape
shape_grown table more (Int n) is = tt
shape_grown table more (Char c) is = tt
shape_grown table more (Atom name) is = is
shape_grown table more (Pair first second) is = (in_grown table more first is.0, in_grown table more second is.1)
shape_grown table more (Xml tag attributes content) is = (
  in_grown table more tag is.0,
  in_grown table more attributes is.1,
  in_grown table more content is.2,
  subst IsAtom (sym (at_grown table more tag is.0)) is.3,
  subst IsRecord (sym (at_grown table more attributes is.1)) is.4,
)
shape_grown table more (Record parts) is = (is.0, parts_grown table more parts is.1)
shape_grown table more (Fun pairs) is = are_pairs_grown table more pairs is

-- a table after more shapes is itself and more
pub grows : (table : List Thing) (shapes : List Shape)
    → (more : List Thing) × (elements_from table shapes ≡ table ++ more)
grows table [] = ([], sym (append-nil table))
grows table (shape ∷ shapes) =
    let one = element_by table shape in
    let rest = grows (table ++ one ∷ []) shapes in
    (one ∷ rest.0, rest.1 ∙ append_assoc table (one ∷ []) rest.0)

-- the parts of a shape of a table are in it
result_below : (table : List Thing) (id : Option ElementId) → IsResult table id → IsResultBelow (length table) id
result_below table None is = tt
result_below table (Some id) is = is

pairs_below : (table : List Thing) (pairs : List (ElementId × Option ElementId))
    → AllOf (λ pair. Names table pair.0 × IsResult table pair.1) pairs
    → AllOf (λ pair. (pair.0.0 < length table) × IsResultBelow (length table) pair.1) pairs
pairs_below table [] are = tt
pairs_below table (pair ∷ pairs) are = ((are.0.0, result_below table pair.1 are.0.1), pairs_below table pairs are.1)

parts_below : (table : List Thing) (shape : Shape) → IsShape table shape → ArePartsBelow (length table) shape
parts_below table (Pair first second) is = is
parts_below table (Xml tag attributes content) is = (is.0, is.1, is.2)
parts_below table (Record parts) is = is.1
parts_below table (Fun pairs) is = pairs_below table pairs is
parts_below table _ is = tt

-- the shape of each number is one of the table, and stands for the element there, and its parts stand before it
pub record IsShapeAt (table : List Thing) (shape : Shape) (index : ℕ) : Type 0 where
  pub sound : IsShape table shape
  pub before : ArePartsBelow index shape
  pub element : element_by table shape ≡ get_or table index (thing.Atom [])

pub shape_at : (table : List Thing) (shapes : List Shape) (index : ℕ) (default : Shape) → AreShapes table shapes
    → index < length shapes
    → IsShapeAt (elements_from table shapes) (get_or shapes index default) (length table + index)
shape_at table [] index default are lt = absurd (omega arith)
shape_at table (shape ∷ shapes) zero default are lt =
    let one = element_by table shape in
    let more = grows (table ++ one ∷ []) shapes in
    let whole : elements_from table (shape ∷ shapes) ≡ table ++ (one ∷ more.0) =
    more.1 ∙ append_assoc table (one ∷ []) more.0 in
    let at : length table ≡ length table + 0 = omega arith in
    subst (λ after. IsShapeAt after shape (length table + 0)) (sym whole) record {
      sound = shape_grown table (one ∷ more.0) shape are.0;
      before = subst (λ place. ArePartsBelow place shape) at (parts_below table shape are.0);
      element = element_grown table (one ∷ more.0) shape are.0
          ∙ sym (get_or_at table one more.0 (thing.Atom []) (length table + 0) at);
    }
shape_at table (shape ∷ shapes) (suc index) default are lt =
    let one = element_by table shape in
    let rest = shape_at (table ++ one ∷ []) shapes index default are.2 (omega arith) in
    let at : length (table ++ one ∷ []) + index ≡ length table + suc index = omega (arith, length_push table one) in
    subst (λ place. IsShapeAt (elements_from table (shape ∷ shapes)) (get_or shapes index default) place) at rest

-- one more shape
pub shapes_push : (table : List Thing) (shapes : List Shape) (shape : Shape) → AreShapes table shapes
    → IsShape (elements_from table shapes) shape
    → IsRanged shape → AreShapes table (shapes ++ shape ∷ [])
shapes_push table [] shape are is ranged = (is, ranged, tt)
shapes_push table (first ∷ shapes) shape are is ranged =
    (are.0, are.1, shapes_push (table ++ element_by table first ∷ []) shapes shape are.2 is ranged)

-- the shapes of a table are elements of the model
element_is : (table : List Thing) (id : ElementId) → AllOf IsElement table → Names table id → IsElement (element_at table id)
element_is table id are names = at table id.0 are names
  where
    at : (all : List Thing) (index : ℕ) → AllOf IsElement all → index < length all → IsElement (get_or all index (thing.Atom []))
    at [] index are lt = absurd (omega arith)
    at (first ∷ rest) zero are lt = are.0
    at (first ∷ rest) (suc index) are lt = at rest index are.1 (omega arith)

labels_rise : (table : List Thing) (before : Option Name) (parts : List (Name × ElementId)) → AreRisingLabels before parts
    → thing.LabelsRise before (fields_of table parts)
labels_rise table before [] rise = tt
labels_rise table before (part ∷ parts) rise = (rise.1, labels_rise table (Some part.0) parts rise.2)

fields_are : (table : List Thing) (before : Option Name) (parts : List (Name × ElementId)) → AllOf IsElement table
    → AreRisingLabels before parts → AllOf (λ part. Names table part.1) parts → AreFields (fields_of table parts)
fields_are table before [] are rise names = tt
fields_are table before (part ∷ parts) are rise names =
    (rise.0, element_is table part.1 are names.0, fields_are table (Some part.0) parts are rise.2 names.1)

pair_is : (argument : Thing) (result : Option Thing) (rest : Pairs) → IsElement argument → IfSome result IsElement
    → ArePairs rest
    → ArePairs (pair_before argument result rest)
pair_is argument None rest is found are = (is, are)
pair_is argument (Some result) rest is found are = (is, found, are)

result_is : (table : List Thing) (id : Option ElementId) → AllOf IsElement table → IsResult table id
    → IfSome (result_at table id) IsElement
result_is table None are names = tt
result_is table (Some id) are names = element_is table id are names

pairs_are : (table : List Thing) (pairs : List (ElementId × Option ElementId)) → AllOf IsElement table
    → AllOf (λ pair. Names table pair.0 × IsResult table pair.1) pairs → ArePairs (pairs_of table pairs)
pairs_are table [] are names = tt
pairs_are table (pair ∷ pairs) are names =
    pair_is (element_at table pair.0) (result_at table pair.1) (pairs_of table pairs)
    (element_is table pair.0 are names.0.0) (result_is table pair.1 are names.0.1) (pairs_are table pairs are names.1)

shape_is : (table : List Thing) (shape : Shape) → AllOf IsElement table → IsShape table shape → IsRanged shape
    → IsElement (element_by table shape)
shape_is table (Int n) are is ranged = ranged
shape_is table (Char c) are is ranged = ranged
shape_is table (Atom name) are is ranged = is
shape_is table (Pair first second) are is ranged = (element_is table first are is.0, element_is table second are is.1)
shape_is table (Xml tag attributes content) are is ranged =
    (is.3, is.4, element_is table tag are is.0, element_is table attributes are is.1, element_is table content are is.2)
shape_is table (Record parts) are is ranged = (labels_rise table None parts is.0, fields_are table None parts are is.0 is.1)
shape_is table (Fun pairs) are is ranged = pairs_are table pairs are is

each_push : (all : List Thing) (one : Thing) → AllOf IsElement all → IsElement one → AllOf IsElement (all ++ one ∷ [])
each_push [] one are is = (is, tt)
each_push (first ∷ rest) one are is = (are.0, each_push rest one are.1 is)

pub elements_are : (table : List Thing) (shapes : List Shape) → AllOf IsElement table → AreShapes table shapes
    → AllOf IsElement (elements_from table shapes)
elements_are table [] are sound = are
elements_are table (shape ∷ shapes) are sound =
    elements_are (table ++ element_by table shape ∷ []) shapes
    (each_push table (element_by table shape) are (shape_is table shape are sound.0 sound.1)) sound.2

-- what is read of the shapes of a table
pub shape_read : (shapes : List Shape) (index : ℕ) (shape : Shape) → AreShapes [] shapes → slice_get shapes index ≡ Some shape
    → IsShapeAt (elements_from [] shapes) shape index
shape_read shapes index shape are stands =
    let place : length {A = Thing} [] + index ≡ index = omega arith in
    let found = shape_at [] shapes index shape are (slice_get_within shapes index shape stands) in
    let placed = subst (IsShapeAt (elements_from [] shapes) (get_or shapes index shape)) place found in
    subst (λ one. IsShapeAt (elements_from [] shapes) one index) (get_or_from_slice_get shapes index shape shape stands) placed
