-- Where a place of the code gets its number, it is added at most.
use Rattle.std.proofs.Common.{◌≡◌, ◌⊎◌, inl, inr, ℕ, List, [], ◌∷◌, ◌++◌, Some, sym, subst}
use Rattle.std.proofs.Common.{◌∙◌, ap}
use Rattle.std.proofs.lemmas.List.{map-append}
use Rattle.std.proofs.lemmas.Option.{slice_get-map}
use Rattle.std.specs.List.{slice_get}
use Rattle.std.specs.Option.{option_map}
use Rattle.cd_model.proofs.Ones.{one_on_a_side}
use Rattle.cd_filter.specs.Table.{Place}
use Rattle.cd_explored.specs.Inner.NumberedSteps.{IsNumbered, GrowTo}
use Rattle.cd_explored.specs.Inner.PlainSteps.{plain_place, plain_places}
use Rattle.cd_explored.specs.declared.place.Place.{Place as CodePlace}
use Rattle.cd_explored.proofs.StepsNumbered.{IsAdded, grow_not}

-- the place of a number
pub plain_there : (places : List CodePlace) (number : ℕ) (place : CodePlace)
    → slice_get places number ≡ Some place
    → slice_get (plain_places places) number ≡ Some (plain_place place)
plain_there places number place there =
    slice_get-map plain_place places number ∙ ap (option_map plain_place) there

pub is_added : (old new : List CodePlace) (number : ℕ) (place : CodePlace)
    → slice_get new number ≡ Some place → (new ≡ old) ⊎ (new ≡ old ++ place ∷ [])
    → IsAdded (plain_places old) (plain_places new) number (plain_place place)
is_added old new number place found grows = record {
  found = plain_there new number place found;
  grown = elim grows [
    | inl same ↦ subst (λ (new : List CodePlace). GrowTo (plain_places old) (plain_places new))
        (sym same) (grow_not (plain_places old))
    | inr more ↦ (
      plain_place place ∷ [],
      ap plain_places more ∙ map-append plain_place old (place ∷ []),
    )
  ];
  led = λ other there. elim grows [
    | inl same ↦ inl (subst (λ (new : List CodePlace). IsNumbered (plain_places new) other) same
        there)
    | inr more ↦ elim (one_on_a_side (λ one. one ≡ other) (plain_places old) (plain_place place ∷ [])
        (subst (λ (new : List Place). IsNumbered new other)
        (ap plain_places more ∙ map-append plain_place old (place ∷ [])) there)) [
          | inl before ↦ inl before
          | inr last ↦ elim last [ inl same ↦ inr same | inr none ↦ absurd none ]
        ]
  ];
}
