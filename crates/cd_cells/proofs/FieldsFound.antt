-- The field of a label, among the fields of a record.
use Rattle.std.proofs.Common.{◌≡◌, refl, ◌∙◌, bytes_eq, Bool, true, false, List, [], ◌∷◌, Option, Some, None, option_map, ℕ, ◌<◌}
use Rattle.std.specs.Prelude.{cond, if◌then◌else◌}
use Rattle.std.specs.List.{find}
use Rattle.cd_syntax.specs.Name.{Name}
use Rattle.cd_model.specs.AllOf.{AllOf}
use Rattle.cd_model.specs.Thing.{Thing, Fields, NoField, Field}
use Rattle.cd_cells.specs.declared.cell.Part.{Part}
use Rattle.cd_cells.specs.Cells.{thing_at, fields_of, IsPart}
use Rattle.cd_cells.specs.FieldOf.{is_of}

module _ (names : List Name) (table : List Thing) (label : Name) where
  abbrev pub value : Part → Thing
  value part = thing_at table part.value

  -- what is at a label, by any function that finds the first field of it
  module _ (at : Fields → Option Thing) (none : at NoField ≡ None)
      (next : (name : Name) (v : Thing) (rest : Fields) → at (Field name v rest) ≡ (if bytes_eq name label then Some v else at rest)) where
    pub field_found : (parts : List Part) → at (fields_of names table parts) ≡ option_map value (find (is_of names label) parts)
    field_found [] = none
    field_found (part ∷ parts) =
        next _ (value part) (fields_of names table parts) ∙ by_test (is_of names label part) (field_found parts)
      where
        by_test : (test : Bool) → at (fields_of names table parts) ≡ option_map value (find (is_of names label) parts)
            → (if test then Some (value part) else at (fields_of names table parts))
            ≡ option_map value (cond test (Some part) (find (is_of names label) parts))
        by_test true rest = refl
        by_test false rest = rest

  pub found_within : (bound : ℕ) (parts : List Part) (part : Part) → AllOf (IsPart names bound) parts
      → Some part ≡ find (is_of names label) parts → part.value < bound
  found_within bound [] part are same = absurd cc
  found_within bound (first ∷ parts) part are same =
      by_test (is_of names label first) (found_within bound parts part are.1) same
    where
      by_test : (test : Bool) → (Some part ≡ find (is_of names label) parts → part.value < bound)
          → Some part ≡ cond test (Some first) (find (is_of names label) parts) → part.value < bound
      by_test true later same = let it : part ≡ first = cc in rw it are.0.1
      by_test false later same = later same
