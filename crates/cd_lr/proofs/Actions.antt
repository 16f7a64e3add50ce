-- What an action says of its row.
use Rattle.std.proofs.Common.{◌≡◌, ◌∙◌, sym, ap, subst, refl, ℕ, zero, suc, List, [], ◌∷◌, Option, Some, None}
use Rattle.std.proofs.Common.{Bool, true, false, eqb-true}
use Rattle.std.specs.Prelude.{nat_eq}
use Rattle.cd_lr.specs.Automaton.{Shift, Reduce, Accept}
use Rattle.cd_lr.specs.Tables.{Tables, Row, choose, all, seek, shifts_of, reduces_of, among}
use Rattle.cd_lr.specs.Tables.{by_shift, by_rules, read, ended, action_in}
use Rattle.cd_lr.proofs.Bools.{first_also, second_also}

module _ (t : Tables) where
  -- no action of rules is a shift
  ended_not : (b : Bool) (w next : ℕ) → ended t b ≡ Shift w next → ⊥
  ended_not true w next is = cc
  ended_not false w next is = cc

  read_not : (p k w next : ℕ) → read t p k ≡ Shift w next → ⊥
  read_not zero k w next is = ended_not (nat_eq k t.finish) w next is
  read_not (suc p) k w next is = cc

  rules_not : (rs : List (ℕ × ℕ)) (k w next : ℕ) → by_rules t rs k ≡ Shift w next → ⊥
  rules_not [] k w next is = cc
  rules_not (one ∷ rest) k w next is = by (among k one.1) is (rules_not rest k w next)
    where
      by : (taken : Bool) → choose taken (read t one.0 k) (by_rules t rest k) ≡ Shift w next
          → (by_rules t rest k ≡ Shift w next → ⊥) → ⊥
      by true is later = read_not one.0 k w next is
      by false is later = later is

  pub shift_found : (row : Row) (k w next : ℕ) → action_in t row k ≡ Shift w next
      → seek (shifts_of row) k ≡ Some (w, next)
  shift_found row k w next is = by (seek (shifts_of row) k) is
    where
      by : (found : Option (ℕ × ℕ)) → by_shift t found (by_rules t (reduces_of row) k) ≡ Shift w next
          → found ≡ Some (w, next)
      by None is = absurd (rules_not (reduces_of row) k w next is)
      by (Some to) is =
          let same_w : to.0 ≡ w = cc in
          let same_next : to.1 ≡ next = cc in
          ap (λ n. Some (n, to.1)) same_w ∙ ap (λ n. Some (w, n)) same_next

  -- a rule that is read stands in the row
  read_ways : (p k q : ℕ) → read t p k ≡ Reduce q → (p ≡ q) × (r : ℕ) × (q ≡ suc r)
  read_ways zero k q is = absurd (by (nat_eq k t.finish) is)
    where
      by : (b : Bool) → ended t b ≡ Reduce q → ⊥
      by true is = cc
      by false is = cc
  read_ways (suc p) k q is = let same : suc p ≡ q = cc in (same, p, sym same)

  -- of each that stands there something holds
  abbrev pub IsRead : (test : ℕ × ℕ → Bool) → (p : ℕ) → Type 0
  IsRead test p = (q : ℕ) × (p ≡ suc q) × (mask : ℕ) × (test (p, mask) ≡ true)

  rules_read : (rs : List (ℕ × ℕ)) (test : ℕ × ℕ → Bool) (k p : ℕ) → all test rs ≡ true → by_rules t rs k ≡ Reduce p
      → IsRead test p
  rules_read [] test k p is so = absurd cc
  rules_read (one ∷ rest) test k p is so =
      by (among k one.1) so (first_also (test one) (all test rest) is)
      (rules_read rest test k p (second_also (test one) (all test rest) is))
    where
      by : (taken : Bool) → choose taken (read t one.0 k) (by_rules t rest k) ≡ Reduce p → test one ≡ true
          → (by_rules t rest k ≡ Reduce p → IsRead test p) → IsRead test p
      by true so here later =
          let found = read_ways one.0 k p so in
          (found.1, found.2, one.1, subst (λ n. test (n, one.1) ≡ true) found.0 here)
      by false so here later = later so

  pub reduce_found : (row : Row) (test : ℕ × ℕ → Bool) (k p : ℕ) → all test (reduces_of row) ≡ true
      → action_in t row k ≡ Reduce p → IsRead test p
  reduce_found row test k p is so = by (seek (shifts_of row) k) so
    where
      by : (found : Option (ℕ × ℕ)) → by_shift t found (by_rules t (reduces_of row) k) ≡ Reduce p → IsRead test p
      by (Some to) so = absurd cc
      by None so = rules_read (reduces_of row) test k p is so

  -- where all is accepted rule 0 stands in the row
  read_accepts : (p k : ℕ) → read t p k ≡ Accept → (p ≡ zero) × (k ≡ t.finish)
  read_accepts zero k is = by (nat_eq k t.finish) refl is
    where
      by : (b : Bool) → nat_eq k t.finish ≡ b → ended t b ≡ Accept → (zero ≡ zero) × (k ≡ t.finish)
      by true same is = (refl, eqb-true _ _ same)
      by false same is = absurd cc
  read_accepts (suc p) k is = absurd cc

  abbrev pub IsAccepted : (test : ℕ × ℕ → Bool) → (k : ℕ) → Type 0
  IsAccepted test k = (k ≡ t.finish) × (mask : ℕ) × (test (zero, mask) ≡ true)

  rules_accept : (rs : List (ℕ × ℕ)) (test : ℕ × ℕ → Bool) (k : ℕ) → all test rs ≡ true → by_rules t rs k ≡ Accept
      → IsAccepted test k
  rules_accept [] test k is so = absurd cc
  rules_accept (one ∷ rest) test k is so =
      by (among k one.1) so (first_also (test one) (all test rest) is)
      (rules_accept rest test k (second_also (test one) (all test rest) is))
    where
      by : (taken : Bool) → choose taken (read t one.0 k) (by_rules t rest k) ≡ Accept → test one ≡ true
          → (by_rules t rest k ≡ Accept → IsAccepted test k) → IsAccepted test k
      by true so here later =
          let found = read_accepts one.0 k so in
          (found.1, one.1, subst (λ n. test (n, one.1) ≡ true) found.0 here)
      by false so here later = later so

  pub accept_found : (row : Row) (test : ℕ × ℕ → Bool) (k : ℕ) → all test (reduces_of row) ≡ true
      → action_in t row k ≡ Accept → IsAccepted test k
  accept_found row test k is so = by (seek (shifts_of row) k) so
    where
      by : (found : Option (ℕ × ℕ)) → by_shift t found (by_rules t (reduces_of row) k) ≡ Accept → IsAccepted test k
      by (Some to) so = absurd cc
      by None so = rules_accept (reduces_of row) test k is so
