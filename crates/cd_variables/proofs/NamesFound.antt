-- Names that are found by an index.
use Rattle.std.proofs.Common.{◌≡◌, ◌+◌, Bool, true, false, List, [], ◌∷◌, Option, Some, None, is_some, refl, ◌∙◌}
use Rattle.std.proofs.Common.{bytes_eq, ◌||◌, if◌then◌else◌}
use Rattle.std.specs.Option.{option_map}
use Rattle.cd_syntax.specs.Name.{Name}
use Rattle.cd_resolve.specs.FirstPlaces.{first_place}
use Rattle.cd_variables.specs.FindingVariables.{has_name}

mapped_is_some : {X Y : Type 0} (f : X → Y) (one : Option X) → is_some (option_map f one) ≡ is_some one
mapped_is_some f None = refl
mapped_is_some f (Some one) = refl

-- a name has a first place where it is among the names
pub found_is_has : (names : List Name) (name : Name) → is_some (first_place names name) ≡ has_name names name
found_is_has [] name = refl
found_is_has (other ∷ rest) name = by_test (bytes_eq other name) (found_is_has rest name) where
  by_test : (b : Bool) → is_some (first_place rest name) ≡ has_name rest name
      → is_some (if b then Some 0 else option_map (λ place. place + 1) (first_place rest name))
      ≡ (b || has_name rest name)
  by_test true on = refl
  by_test false on = mapped_is_some (λ place. place + 1) (first_place rest name) ∙ on
