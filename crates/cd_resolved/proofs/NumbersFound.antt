-- Numbers that are found by places: no place stands twice, and what is one of a list has a number.
use Rattle.std.proofs.Common.{◌≡◌, ◌≢◌, ◌+◌, ◌<◌, ◌≤◌, ℕ, zero, suc, List, [], ◌∷◌, Option, Some, None, inl, inr, length, map, refl, sym, ap, ◌∙◌, arith}
use Rattle.std.specs.List.{slice_get}
use Rattle.std.proofs.lemmas.Option.{slice_get_within}
use borrow.Author.Count.{below_more}
use Rattle.cd_syntax.specs.TypeTree.{Tree}
use Rattle.cd_model.specs.AllOf.{AllOf, AnyOf}
use Rattle.cd_cells.specs.Slots.{slot_at}
use Rattle.cd_placed.specs.Patterns.{start_of, StartsDiffer}
use Rattle.cd_resolved.specs.Inner.Numbers.{AreOnce, AreNumbers}

some_once : {X : Type 0} (x y : X) → Some x ≡ Some y → x ≡ y
some_once x y same = cc

none_is_some : {X : Type 0} (x : X) → None ≡ Some x → ⊥
none_is_some x same = cc

module _ {X : Type 0} (place : X → ℕ) where
  -- no two of these have one place
  abbrev Differ : List X → Type 0
  Differ [] = Unit {0}
  Differ (x ∷ rest) = AllOf (λ other. place x ≢ place other) rest × Differ rest

  not_later : (first : ℕ) (rest : List X) (number : ℕ) → AllOf (λ other. first ≢ place other) rest
      → slice_get (map place rest) number ≡ Some first → ⊥
  not_later first [] number differ is = none_is_some first is
  not_later first (x ∷ rest) zero differ is = differ.0 (sym (some_once (place x) first is))
  not_later first (x ∷ rest) (suc number) differ is = not_later first rest number differ.1 is

  once : (all : List X) → Differ all → AreOnce (map place all)
  once [] differ number other at is was = absurd (none_is_some at is)
  once (x ∷ all) differ zero zero at is was = refl
  once (x ∷ all) differ zero (suc other) at is was = absurd (not_later (place x) all other differ.0 (was ∙ sym is))
  once (x ∷ all) differ (suc number) zero at is was = absurd (not_later (place x) all number differ.0 (is ∙ sym was))
  once (x ∷ all) differ (suc number) (suc other) at is was = ap suc (once all differ.1 number other at is was)

  -- one of a list has a number, and so has its place
  has_number : (all : List X) (x : X) → AnyOf (λ one. one ≡ x) all
      → (number : ℕ) × (slice_get all number ≡ Some x) × (slice_get (map place all) number ≡ Some (place x))
  has_number [] x is = absurd is
  has_number (one ∷ all) x (inl same) = (zero, ap Some same, ap (λ y. Some (place y)) same)
  has_number (one ∷ all) x (inr later) = let found = has_number all x later in (suc found.0, found.1, found.2)

  found : (all : List X) (slots : List (Option ℕ)) → AreOnce (map place all) → AreNumbers (map place all) slots → (x : X)
      → AnyOf (λ one. one ≡ x) all → (number : ℕ) × (slot_at slots (place x) ≡ Some number) × (slice_get all number ≡ Some x)
  found all slots are_once are x is =
      let has = has_number all x is in (has.0, are are_once has.0 (place x) has.2, has.1)

  pub not_none : (all : List X) (slots : List (Option ℕ)) → AreOnce (map place all) → AreNumbers (map place all) slots → (x : X)
      → AnyOf (λ one. one ≡ x) all → slot_at slots (place x) ≡ None → ⊥
  not_none all slots are_once are x is none =
      let has = found all slots are_once are x is in none_is_some has.0 (sym none ∙ has.1)

  pub right_number : (all : List X) (slots : List (Option ℕ)) → AreOnce (map place all) → AreNumbers (map place all) slots → (x : X)
      → AnyOf (λ one. one ≡ x) all → (number : ℕ) → slot_at slots (place x) ≡ Some number → slice_get all number ≡ Some x
  right_number all slots are_once are x is number at =
      let has = found all slots are_once are x is in
      ap (slice_get all) (some_once number has.0 (sym at ∙ has.1)) ∙ has.2

starts_once : (all : List Tree) → StartsDiffer all → Differ start_of all
starts_once [] differ = tt
starts_once (one ∷ all) differ = (differ.0, starts_once all differ.1)

pub once_starts : (all : List Tree) → StartsDiffer all → AreOnce (map start_of all)
once_starts all differ = once start_of all (starts_once all differ)

-- the slots of the places before a number have their numbers
abbrev HasItsNumber : List ℕ → List (Option ℕ) → ℕ → Type 0
HasItsNumber places slots number = (place : ℕ) → slice_get places number ≡ Some place → slot_at slots place ≡ Some number

abbrev pub AreSoFar : List ℕ → ℕ → List (Option ℕ) → Type 0
AreSoFar places count slots = AreOnce places → (number : ℕ) → number < count → HasItsNumber places slots number

module _ (places : List ℕ) (count at : ℕ) (is_there : slice_get places count ≡ Some at) (old new : List (Option ℕ))
    (put : slot_at new at ≡ Some count)
    (others : (other : ℕ) → (other ≡ at → ⊥) → slot_at new other ≡ slot_at old other) where
  here : HasItsNumber places new count
  here place has = ap (slot_at new) (some_once place at (sym has ∙ is_there)) ∙ put

  before : AreOnce places → (number : ℕ) → number < count → HasItsNumber places old number → HasItsNumber places new number
  before are_once number below was place has =
      others place (λ same. omega (arith, below, are_once number count place has (is_there ∙ ap Some (sym same)))) ∙ was place has

  pub one_more : AreSoFar places count old → AreSoFar places (count + 1) new
  one_more so_far are_once = below_more (HasItsNumber places new) count
      (λ number below. before are_once number below (so_far are_once number below)) here

pub all_found : (places : List ℕ) (count : ℕ) (slots : List (Option ℕ)) → length places ≤ count → AreSoFar places count slots
    → AreNumbers places slots
all_found places count slots over so_far are_once number place has =
    so_far are_once number (omega (arith, over, slice_get_within places number place has)) place has
