-- Places that compare as equal are equal, so a place has one number.
use Rattle.std.proofs.Common.{◌≡◌, ◌==◌, ℕ, zero, suc, Bool, true, false, List, [], ◌∷◌, Some, refl}
use Rattle.std.proofs.Common.{sym, subst, ◌∙◌, ap, true≢false}
use Rattle.std.proofs.lemmas.Option.{none-some, same_Some}
use Rattle.std.specs.Cmp.{first_so, second_so, unsigned_Decides}
use Rattle.std.specs.List.{slice_get, IsDistinct, AllByRecursion}
use Rattle.cd_sets.specs.Asking.{same_question}
use Rattle.cd_sets.proofs.Same.{questions_decide}
use Rattle.cd_explored.specs.contracts.place.PlacePartialEq.TheImpl as equality
use Rattle.cd_explored.specs.declared.place.Place.{Place}

-- what `==` answers
abbrev pub same_place : Place → Place → Bool
same_place = (equality.ghosts).eq

pub places_same : (one other : Place) → same_place one other ≡ true → one ≡ other
places_same one other same = λ i. record {
  number = (unsigned_Decides one.number other.number).0
      (first_so (one.number == other.number) (same_question one.question other.question) same) i;
  question = (questions_decide one.question other.question).0
      (second_so (one.number == other.number) (same_question one.question other.question) same) i;
}

pub same_itself : (place : Place) → same_place place place ≡ true
same_itself place = rw (
  (unsigned_Decides place.number place.number).1 refl,
  (questions_decide place.question place.question).1 refl,
) refl

-- the place that is stored under a number is this one
pub stored_is : (places : List Place) (number : ℕ) (place stored : Place)
    → slice_get places number ≡ Some stored → same_place place stored ≡ true
    → slice_get places number ≡ Some place
stored_is places number place stored there same =
    there ∙ ap Some (sym (places_same place stored same))

-- no place of these is this one
not_among : (places : List Place) (place : Place) (number : ℕ)
    → AllByRecursion (λ other. same_place place other ≡ false) places
    → slice_get places number ≡ Some place → ⊥
not_among [] place zero apart there = none-some place there
not_among [] place (suc number) apart there = none-some place there
not_among (other ∷ places) place zero apart there = true≢false
    (sym (same_itself place) ∙ ap (same_place place) (sym (same_Some other place there)) ∙ apart.0)
not_among (other ∷ places) place (suc number) apart there =
    not_among places place number apart.1 there

pub one_number : (places : List Place) (one other : ℕ) (place : Place)
    → IsDistinct same_place places → slice_get places one ≡ Some place
    → slice_get places other ≡ Some place → one ≡ other
unfolding IsDistinct
one_number [] zero other place distinct there then = absurd (none-some place there)
one_number [] (suc one) other place distinct there then = absurd (none-some place there)
one_number (first ∷ places) zero zero place distinct there then = refl
one_number (first ∷ places) zero (suc other) place distinct there then =
    absurd (not_among places place other
    (subst (λ (first : Place). AllByRecursion (λ other. same_place first other ≡ false) places)
    (same_Some first place there) distinct.0) then)
one_number (first ∷ places) (suc one) zero place distinct there then =
    absurd (not_among places place one
    (subst (λ (first : Place). AllByRecursion (λ other. same_place first other ≡ false) places)
    (same_Some first place then) distinct.0) there)
one_number (first ∷ places) (suc one) (suc other) place distinct there then =
    ap suc (one_number places one other place distinct.1 there then)
