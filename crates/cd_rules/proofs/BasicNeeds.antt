-- Of integers, characters or atoms one is in each of some sets and in none of others, or none is.
use Rattle.std.proofs.Common.{◌≡◌, ℕ, ◌<◌, ℤ, pos, negsuc, Bool, true, false, ◌||◌, List, [], ◌∷◌, ◌++◌, inl, inr, refl, sym, ◌∙◌, subst, arith, bytes_eq}
use Rattle.std.specs.Char.{IsScalar}
use Rattle.std.specs.List.{list_any}
use Rattle.std.proofs.lemmas.Slice.Eq.{bytes_eq-Decides}
use Rattle.std.proofs.lemmas.Int.{ints}
use Rattle.cd_sets.specs.declared.interval.Interval.{Interval}
use Rattle.cd_sets.specs.Atoms as atoms
use Rattle.cd_sets.specs.Atoms.{Atoms as AtomSet}
use Rattle.cd_sets.specs.Characters.{CharInterval, holds_character}
use Rattle.cd_sets.specs.Interval as integers
use Rattle.cd_sets.proofs.Numbering.{scalar_range}
use Rattle.cd_syntax.specs.Integer.{IsInteger}
use Rattle.cd_syntax.specs.Name.{Name, IsLabel}
use Rattle.cd_model.specs.AllOf.{AllOf, AnyOf}
use Rattle.cd_model.proofs.Labels.{IsOneOf}
use Rattle.cd_model.proofs.SoundOrNot.{names_or_not, label_or_not}
use Rattle.cd_rules.specs.Needs.{Need, empty_or_not}
use Rattle.cd_rules.proofs.FreshLabels.{row_of_a, row_is_long, row_is_label, longest, no_longer}
use Rattle.cd_model.proofs.Ones.{one_weaker, one_leads, one_on_left, one_on_right}
use Rattle.cd_model.proofs.HoldsOrNot.{HoldsOrNot, both_or_not, three_or_not, each_or_not, one_or_not, same_or_not, below_or_not}

-- a test of each of some sets has the outcome or not
tests_or_not : {X : Type 0} (test : X → Bool) (outcome : Bool) (sets : List X) → HoldsOrNot (AllOf (λ set. test set ≡ outcome) sets)
tests_or_not test outcome = each_or_not (λ set. test set ≡ outcome) (λ set. same_or_not (test set) outcome)

-- so it is known what a basic kind needs
pub needs_known : {X : Type 0} (IsMember : X → Type 0) → HoldsOrNot ((x : X) × IsMember x)
    → (needs : List Need) × empty_or_not IsMember needs
needs_known IsMember (inl member) = ([], inr (member.0, member.1, refl))
needs_known IsMember (inr none) = ([] ∷ [], inl ((λ x is. none (x, is)), refl))

-- an integer
module _ (wanted refused : List (List Interval)) where
  abbrev IsInSets : ℤ → Type 0
  IsInSets z = AllOf (λ set. integers.holds set z ≡ true) wanted × AllOf (λ set. integers.holds set z ≡ false) refused

  in_sets_or_not : (z : ℤ) → HoldsOrNot (IsInSets z)
  in_sets_or_not z = both_or_not (tests_or_not (λ set. integers.holds set z) true wanted)
      (tests_or_not (λ set. integers.holds set z) false refused)

  abbrev pub IsIntegerOf : ℤ → Type 0
  IsIntegerOf z = IsInteger z × AllOf (λ set. integers.holds set z ≡ true) wanted × AllOf (λ set. integers.holds set z ≡ false) refused

  none_of_both : ((n : ℕ) × (n < 170141183460469231731687303715884105728) × IsInSets (pos n) → ⊥)
      → ((n : ℕ) × (n < 170141183460469231731687303715884105728) × IsInSets (negsuc n) → ⊥) → (z : ℤ) → IsIntegerOf z → ⊥
  none_of_both no_pos no_neg (pos n) is = let most = is.0.1 in no_pos (n, omega (arith, ints), (is.1, is.2))
  none_of_both no_pos no_neg (negsuc n) is = let least = is.0.0 in no_neg (n, omega (arith, ints), (is.1, is.2))

  pub integer_or_not : HoldsOrNot ((z : ℤ) × IsIntegerOf z)
  integer_or_not = by_sign (below_or_not (λ n. IsInSets (pos n)) (λ n. in_sets_or_not (pos n)) 170141183460469231731687303715884105728)
      (below_or_not (λ n. IsInSets (negsuc n)) (λ n. in_sets_or_not (negsuc n)) 170141183460469231731687303715884105728)
    where
      by_sign : HoldsOrNot ((n : ℕ) × (n < 170141183460469231731687303715884105728) × IsInSets (pos n))
          → HoldsOrNot ((n : ℕ) × (n < 170141183460469231731687303715884105728) × IsInSets (negsuc n))
          → HoldsOrNot ((z : ℤ) × IsIntegerOf z)
      by_sign (inl one) other = inl (pos one.0, (let below = one.1 in (omega (arith, ints), omega (arith, ints)), one.2.0, one.2.1))
      by_sign (inr no_pos) (inl one) =
          inl (negsuc one.0, (let below = one.1 in (omega (arith, ints), omega (arith, ints)), one.2.0, one.2.1))
      by_sign (inr no_pos) (inr no_neg) = inr (λ one. none_of_both no_pos no_neg one.0 one.1)

-- a character
module _ (wanted refused : List (List CharInterval)) where
  abbrev pub IsCharacterOf : ℕ → Type 0
  IsCharacterOf c = IsScalar c × AllOf (λ set. holds_character set c ≡ true) wanted × AllOf (λ set. holds_character set c ≡ false) refused

  scalars_are_below : (c : ℕ) → IsScalar c → c < 0x110000
  scalars_are_below c is = elim (scalar_range c is) [ inl low ↦ omega arith | inr high ↦ (let most = high.1 in omega arith) ]

  pub character_or_not : HoldsOrNot ((c : ℕ) × IsCharacterOf c)
  character_or_not = by_below (below_or_not IsCharacterOf (λ c. three_or_not (same_or_not _ true)
      (tests_or_not (λ set. holds_character set c) true wanted) (tests_or_not (λ set. holds_character set c) false refused)) 0x110000)
    where
      by_below : HoldsOrNot ((c : ℕ) × (c < 0x110000) × IsCharacterOf c) → HoldsOrNot ((c : ℕ) × IsCharacterOf c)
      by_below (inl one) = inl (one.0, one.2)
      by_below (inr none) = inr (λ one. none (one.0, scalars_are_below one.0 one.1.0, one.1))

-- the names that some sets of atoms list
abbrev names_in : List AtomSet → List Name
names_in [] = []
names_in (set ∷ sets) = set.names ++ names_in sets

-- a name that is not among some is found among none of them
not_found : (names : List Name) (name : Name) → (IsOneOf names name → ⊥) → list_any (bytes_eq name) names ≡ false
not_found [] name none = refl
not_found (other ∷ names) name none = by_test (bytes_eq name other) (bytes_eq-Decides name other).0
    (not_found names name (λ later. none (inr later)))
  where
    by_test : (same : Bool) → (same ≡ true → name ≡ other) → list_any (bytes_eq name) names ≡ false
        → same || list_any (bytes_eq name) names ≡ false
    by_test true is later = absurd (none (inl (sym (is refl))))
    by_test false is later = later

-- a name is among some or not
listed_or_not : (names : List Name) (name : Name) → HoldsOrNot (IsOneOf names name)
listed_or_not names name = one_or_not (λ other. other ≡ name) (λ other. names_or_not other name) names

-- sets treat two names alike that they do not list
held_alike : (set : AtomSet) (one other : Name) → (IsOneOf set.names one → ⊥) → (IsOneOf set.names other → ⊥)
    → atoms.holds set one ≡ atoms.holds set other
held_alike set one other not_one not_other =
    let first = not_found set.names one not_one in let second = not_found set.names other not_other in rw (first, second) refl

all_alike : (sets : List AtomSet) (one other : Name) (outcome : Bool) → (IsOneOf (names_in sets) one → ⊥)
    → (IsOneOf (names_in sets) other → ⊥)
    → AllOf (λ set. atoms.holds set one ≡ outcome) sets → AllOf (λ set. atoms.holds set other ≡ outcome) sets
all_alike [] one other outcome not_one not_other each = tt
all_alike (set ∷ sets) one other outcome not_one not_other each = (
  sym (held_alike set one other (λ is. not_one (one_on_left (λ name. name ≡ one) set.names (names_in sets) is))
      (λ is. not_other (one_on_left (λ name. name ≡ other) set.names (names_in sets) is))) ∙ each.0,
  all_alike sets one other outcome (λ is. not_one (one_on_right (λ name. name ≡ one) set.names (names_in sets) is))
      (λ is. not_other (one_on_right (λ name. name ≡ other) set.names (names_in sets) is)) each.1,
)

-- an atom: one of those that are listed, or a label that is longer than all of these
module _ (wanted refused : List AtomSet) where
  abbrev pub IsAtomOf : Name → Type 0
  IsAtomOf name = IsLabel name × AllOf (λ set. atoms.holds set name ≡ true) wanted × AllOf (λ set. atoms.holds set name ≡ false) refused

  atom_of_or_not : (name : Name) → HoldsOrNot (IsAtomOf name)
  atom_of_or_not name = three_or_not (label_or_not name) (tests_or_not (λ set. atoms.holds set name) true wanted)
      (tests_or_not (λ set. atoms.holds set name) false refused)

  listed : List Name
  listed = names_in wanted ++ names_in refused

  fresh : Name
  fresh = row_of_a (longest listed)

  fresh_is_not_listed : IsOneOf listed fresh → ⊥
  unfolding fresh
  fresh_is_not_listed one =
      let most = no_longer listed (row_of_a (longest listed)) one in
      let long = row_is_long (longest listed) in
      omega arith

  -- what is so of an atom that is not listed is so of the fresh one
  fresh_alike : (name : Name) → (IsOneOf listed name → ⊥) → IsAtomOf name → IsAtomOf fresh
  unfolding fresh listed
  fresh_alike name none is = (
    row_is_label (longest listed),
    all_alike wanted name fresh true (λ one. none (one_on_left (λ other. other ≡ name) (names_in wanted) (names_in refused) one))
        (λ one. fresh_is_not_listed (one_on_left (λ other. other ≡ fresh) (names_in wanted) (names_in refused) one)) is.1,
    all_alike refused name fresh false (λ one. none (one_on_right (λ other. other ≡ name) (names_in wanted) (names_in refused) one))
        (λ one. fresh_is_not_listed (one_on_right (λ other. other ≡ fresh) (names_in wanted) (names_in refused) one)) is.2,
  )

  pub atom_or_not : HoldsOrNot ((name : Name) × IsAtomOf name)
  atom_or_not = by_listed (one_or_not IsAtomOf atom_of_or_not listed) (atom_of_or_not fresh)
    where
      at_listed : (names : List Name) (name : Name) → IsOneOf names name → IsAtomOf name → AnyOf IsAtomOf names
      at_listed names name one is = one_weaker (λ other. other ≡ name) IsAtomOf (λ other same. subst IsAtomOf (sym same) is) names one

      nowhere : (AnyOf IsAtomOf listed → ⊥) → (IsAtomOf fresh → ⊥) → (name : Name) → IsAtomOf name → ⊥
      nowhere none no_fresh name is = elim (listed_or_not listed name) [
        | inl one ↦ none (at_listed listed name one is)
        | inr not ↦ no_fresh (fresh_alike name not is)
      ]

      by_listed : HoldsOrNot (AnyOf IsAtomOf listed) → HoldsOrNot (IsAtomOf fresh) → HoldsOrNot ((name : Name) × IsAtomOf name)
      by_listed (inl one) other = inl (one_leads IsAtomOf (λ name is. (name, is)) listed one)
      by_listed (inr none) (inl is) = inl (fresh, is)
      by_listed (inr none) (inr no_fresh) = inr (λ one. nowhere none no_fresh one.0 one.1)
