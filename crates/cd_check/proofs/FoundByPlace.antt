-- The node of a function is at the place of its name.
use Rattle.std.proofs.Common.{◌≡◌, ◌+◌, ℕ, Bool, true, false, List, [], ◌∷◌, Option, Some, None, bytes_eq, if◌then◌else◌, refl, sym, ap, ◌∙◌}
use native.Mathlib.Numerals.{unary_clauses}
use Rattle.std.specs.List.{slice_get}
use Rattle.std.specs.Borrow.{Bor}
use Rattle.std.specs.Option.{option_map}
use Rattle.std.specs.Slice.{IsItemAt}
use Rattle.std.proofs.lemmas.Option.{slice_get-get_or, slice_get_past}
use Rattle.cd_sets.specs.declared.node_id.NodeId.{NodeId}
use Rattle.cd_syntax.specs.Name.{Name}
use Rattle.cd_resolve.specs.FirstPlaces.{first_place}
use Rattle.cd_check.specs.Inner.Environment.{declared, node_at}

-- what stands at a place, if there is a place
abbrev pub at_place : List NodeId → Option ℕ → Option NodeId
at_place ids None = None
at_place ids (Some number) = slice_get ids number

later_place : (id : NodeId) (ids : List NodeId) (place : Option ℕ) → at_place (id ∷ ids) (option_map (λ number. number + 1) place) ≡ at_place ids place
later_place id ids None = refl
later_place id ids (Some number) = simp unary_clauses refl

nowhere : (place : Option ℕ) → at_place [] place ≡ None
nowhere None = refl
nowhere (Some number) = refl

pub found_by_place : (names : List Name) (ids : List NodeId) (name : Name) → at_place ids (first_place names name) ≡ node_at (declared names ids) name
found_by_place [] ids name = refl
found_by_place (other ∷ names) [] name = nowhere (first_place (other ∷ names) name)
found_by_place (other ∷ names) (id ∷ ids) name = by (bytes_eq other name) (found_by_place names ids name)
  where
    by : (same : Bool) → at_place ids (first_place names name) ≡ node_at (declared names ids) name
        → at_place (id ∷ ids) (if same then Some 0 else option_map (λ place. place + 1) (first_place names name))
        ≡ (if same then Some id else node_at (declared names ids) name)
    by true further = refl
    by false further = later_place id ids (first_place names name) ∙ further

-- what a look at a place gives
pub looked_up : {X : Type 0} (all : List X) (place : ℕ) (found : Option (Bor X)) → IsItemAt all place found
    → option_map (λ x. x.now) found ≡ slice_get all place
looked_up all place None is = sym (slice_get_past all place is.3)
looked_up all place (Some x) is = ap Some is.1 ∙ sym (slice_get-get_or all place x.now is.3.0)
