-- The node of a place for a variable: that of the want of what the variable captures there.
use Rattle.std.proofs.Common.{◌≡◌, ◌+◌, ℕ, Bool, true, false, ◌&&◌, List, Option, Some, None, refl, sym, ap}
use Rattle.std.proofs.Common.{◌∙◌, true≢false, eqb}
use Rattle.std.proofs.lemmas.Bool.Decides.{Decides-eqb}
use Rattle.std.specs.Cmp.{first_so, second_so}
use Rattle.std.specs.List.{slice_get}
use Rattle.cd_sets.specs.declared.node_id.NodeId.{NodeId}
use Rattle.cd_sets.specs.Asking.{same_question}
use Rattle.cd_sets.proofs.Same.{questions_decide}
use Rattle.cd_model.specs.BuiltIns.{node}
use Rattle.cd_filter.specs.Table.{Place}
use Rattle.cd_explored.specs.declared.want.Want.{Want}
use Rattle.cd_explored.specs.declared.want.Want.TheVariants.{Comes, Captures, Text, Character}
use Rattle.cd_explored.specs.Inner.Wanted.{AreOnce}
use Rattle.cd_captured.proofs.Found.{find, find_one}

abbrev same_place : Place → Place → Bool
same_place place other =
    eqb place.number other.number && same_question place.question other.question

same_places : (place other : Place) → same_place place other ≡ true → place ≡ other
same_places place other same =
    let test = same_question place.question other.question in
    let number = (Decides-eqb place.number other.number).0
    (first_so (eqb place.number other.number) test same) in
    let question = (questions_decide place.question other.question).0
    (second_so (eqb place.number other.number) test same) in
    λ i. record { number = number i; question = question i }

same_itself : (place : Place) → same_place place place ≡ true
same_itself place = rw ((Decides-eqb place.number place.number).1 refl)
    ((questions_decide place.question place.question).1 refl)

abbrev is_place : Option Place → Place → Bool
is_place None place = false
is_place (Some other) place = same_place other place

is_its : (found : Option Place) (place : Place) → is_place found place ≡ true → found ≡ Some place
is_its None place same = absurd (true≢false (sym same))
is_its (Some other) place same = ap Some (same_places other place same)

module _ (places : List Place) (variable : ℕ) where
  -- whether it is wanted what the variable captures at the place
  abbrev is_wanted : Place → Want → Bool
  is_wanted place (Captures other number) =
      eqb other variable && is_place (slice_get places number) place
  is_wanted place want = false

  module _ (first : ℕ) (wants : List Want) where
    abbrev pub id_of : Place → NodeId
    id_of place = node (first + find (is_wanted place) wants)

    module _ (once : (one other : ℕ) (place : Place) → slice_get places one ≡ Some place
        → slice_get places other ≡ Some place → one ≡ other) (wanted_once : AreOnce wants) where
      pub id_found : (number k : ℕ) (place : Place) → slice_get places number ≡ Some place
          → slice_get wants k ≡ Some (Captures variable number)
          → id_of place ≡ node (first + k)
      id_found number k place there wanted = ap (λ (n : ℕ). node (first + n))
          (find_one (is_wanted place) wants k (Captures variable number) wanted passes alone)
        where
          passes : is_wanted place (Captures variable number) ≡ true
          passes = rw ((Decides-eqb variable variable).1 refl, there) (same_itself place)

          same_want : (want : Want) → is_wanted place want ≡ true → want ≡ Captures variable number
          same_want (Comes other) same = absurd (true≢false (sym same))
          same_want (Captures other at) same =
              let test = is_place (slice_get places at) place in
              let is = (Decides-eqb other variable).0 (first_so (eqb other variable) test same) in
              let found = is_its (slice_get places at) place
              (second_so (eqb other variable) test same) in
              λ i. Captures (is i) (once at number place found there i)
          same_want (Text other from) same = absurd (true≢false (sym same))
          same_want (Character c) same = absurd (true≢false (sym same))

          alone : (other : ℕ) (want : Want) → slice_get wants other ≡ Some want
              → is_wanted place want ≡ true → other ≡ k
          alone other want is does = wanted_once other k (Captures variable number)
              (is ∙ ap Some (same_want want does)) wanted
