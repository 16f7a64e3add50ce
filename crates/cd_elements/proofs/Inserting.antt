-- A shape is put into a table that it is not in, and has its number in one that it is in.
use Rattle.std.proofs.Common.{◌≡◌, ℕ, ◌<◌, Bool, true, false, List, [], ◌∷◌, ◌++◌, Some, length, get_or, slice_get, sym, ap, ◌∙◌}
use Rattle.std.proofs.Common.{subst, append-nil, arith}
use Rattle.std.specs.Prelude.{Result, Ok, Err, IfOk, OnErr, if◌then◌else◌}
use Rattle.std.specs.List.{list_any}
use Rattle.std.proofs.lemmas.Option.{slice_get_within}
use Rattle.indexmap.specs.IndexSet.{insert_key}
use Rattle.cd_model.specs.Thing as thing
use Rattle.cd_model.specs.Thing.{Thing}
use Rattle.cd_elements.specs.declared.shape.Shape.{Shape}
use Rattle.cd_elements.specs.Table.{IsShape, element_by, elements_from}
use Rattle.cd_elements.specs.Sound.{IsRanged, AreShapes}
use Rattle.cd_elements.proofs.TableLaws.{from_append, length_from, element_grown, shapes_push, shape_read}
use Rattle.cd_elements.proofs.SameShapes.{same_shape, same_shapes}

module _ (shapes after : List Shape) (shape : Shape) (are : AreShapes [] shapes) (is : IsShape (elements_from [] shapes) shape)
    (put : after ≡ insert_key same_shape shapes shape) where
  pub still_shapes : IsRanged shape → AreShapes [] after
  still_shapes ranged = subst (AreShapes []) (sym put) (by_test (list_any (same_shape shape) shapes))
    where
      by_test : (there : Bool) → AreShapes [] (if there then shapes else shapes ++ shape ∷ [])
      by_test true = are
      by_test false = shapes_push [] shapes shape are is ranged

  pub elements_added : (more : List Thing) × (elements_from [] after ≡ elements_from [] shapes ++ more)
  elements_added = subst (λ (all : List Shape). (more : List Thing) × (elements_from [] all ≡ elements_from [] shapes ++ more))
      (sym put) (by_test (list_any (same_shape shape) shapes))
    where
      by_test : (there : Bool)
          → (more : List Thing)
          × (elements_from [] (if there then shapes else shapes ++ shape ∷ []) ≡ elements_from [] shapes ++ more)
      by_test true = ([], sym (append-nil (elements_from [] shapes)))
      by_test false = (element_by (elements_from [] shapes) shape ∷ [], from_append [] shapes (shape ∷ []))

  -- where an equal shape stands, the number is that of the element
  pub number_of_element : (number : ℕ) (stored : Shape) → IsRanged shape → slice_get after number ≡ Some stored
      → same_shape shape stored ≡ true
      → (number < length (elements_from [] after))
      × (get_or (elements_from [] after) number (thing.Atom []) ≡ element_by (elements_from [] shapes) shape)
  number_of_element number stored ranged stands equal =
      let stands_itself : slice_get after number ≡ Some shape = stands ∙ ap Some (sym (same_shapes shape stored equal)) in
      let place : number < length after = slice_get_within after number shape stands_itself in
      let within : number < length (elements_from [] after) = omega (arith, length_from [] after) in
      let read = shape_read after number shape (still_shapes ranged) stands_itself in
      let grown = ap (λ (table : List Thing). element_by table shape) elements_added.1
      ∙ element_grown (elements_from [] shapes) elements_added.0 shape is in
      (within, sym read.element ∙ grown)

-- also where memory runs out
pub shapes_after : {T E : Type 0} (done : Result T E) (shapes after : List Shape) (shape : Shape) → AreShapes [] shapes
    → IsShape (elements_from [] shapes) shape → IsRanged shape → IfOk done (λ number. after ≡ insert_key same_shape shapes shape)
    → OnErr done (after ≡ shapes) → AreShapes [] after
shapes_after (Ok value) shapes after shape are is ranged put kept = still_shapes shapes after shape are is put ranged
shapes_after (Err error) shapes after shape are is ranged put kept = subst (AreShapes []) (sym kept) are
