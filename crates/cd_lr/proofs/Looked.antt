-- The validator looked at each item of each state, and at each rule.
use Rattle.std.proofs.Common.{◌≡◌, ◌∙◌, sym, ap, subst, refl, ℕ, zero, List, [], ◌∷◌, Option, Some, Bool, true, drop, length, eqb-true, eq-eqb, inl, inr}
use Rattle.std.specs.Prelude.{◌⊎◌, nat_eq}
use Rattle.cd_lr.specs.Grammar.{Symbol, Nonterminal}
use Rattle.cd_lr.specs.Valid.{both}
use Rattle.cd_lr.specs.Tables.{Rule, rule, at, Begin, begin_at, Tables, also, any, all, every, find, seek, given, holds, kernel_of, closed_of, shifts_of, gotos_of, reduces_of, left_of, right_of, mask_of, rule_at, row_at, left, right}
use Rattle.cd_lr.specs.Validator.{has, row_safe, row_full, rule_fits, tall_fits, rules_fit, start_fits, first_fits, symbol_fits, kernel_safe, begin_safe, shift_safe, goto_safe, reduce_safe, kernel_full, begin_full, item}
use Rattle.cd_lr.proofs.Bools.{first_also, second_also, to_also, in_either, not_true, all_any, all_also, all_seek, every_find, given_find, every_given, in_holds}
use Rattle.cd_lr.proofs.Lists.{after_place}

-- an entry of a kernel is the item of a rule with its dot at a place, and its lookaheads pass a test
abbrev pub is_item : (p d : ℕ) → (test : ℕ → Bool) → (ℕ × ℕ × ℕ) → Bool
is_item p d test e = also (nat_eq e.0 p) (also (nat_eq e.1 d) (test e.2))

pub item_parts : (p d : ℕ) (test : ℕ → Bool) (e : ℕ × ℕ × ℕ) → is_item p d test e ≡ true
    → (e.0 ≡ p) × (e.1 ≡ d) × (test e.2 ≡ true)
item_parts p d test e is =
    let rest = second_also (nat_eq e.0 p) (also (nat_eq e.1 d) (test e.2)) is in (
      eqb-true _ _ (first_also (nat_eq e.0 p) _ is),
      eqb-true _ _ (first_also (nat_eq e.1 d) _ rest),
      second_also (nat_eq e.1 d) (test e.2) rest,
    )

-- the same item passes a weaker test
pub item_more : (p d : ℕ) (small big : ℕ → Bool) (e : ℕ × ℕ × ℕ)
    → ((mask : ℕ) → small mask ≡ true → big mask ≡ true) → is_item p d small e ≡ true → is_item p d big e ≡ true
item_more p d small big e more is =
    let (same_p, same_d, so) = item_parts p d small e is in
    to_also _ _ (eq-eqb _ _ same_p) (to_also _ _ (eq-eqb _ _ same_d) (more e.2 so))

-- a fact of an entry that is an item is one of the item
pub at_item : (fact : (p d mask : ℕ) → Type 0) (p d : ℕ) (e : ℕ × ℕ × ℕ) → e.0 ≡ p → e.1 ≡ d
    → fact e.0 e.1 e.2 → fact p d e.2
at_item fact p d e same_p same_d is = subst (λ n. fact n d e.2) same_p (subst (λ n. fact e.0 n e.2) same_d is)

module _ (t : Tables) (rules_do : rules_fit t ≡ true) (rows_safe : every (row_safe t) t.states ≡ true)
    (rows_full : every (row_full t) t.states ≡ true) where
  -- the tests of the start, of the rules and of the heights
  pub start_does : start_fits t ≡ true
  start_does = first_also (start_fits t) (also (every (rule_fits t) t.rules) (every (tall_fits t) t.tall)) rules_do

  pub each_rule : every (rule_fits t) t.rules ≡ true
  each_rule =
      first_also (every (rule_fits t) t.rules) (every (tall_fits t) t.tall) (second_also (start_fits t) _ rules_do)

  pub each_tall : every (tall_fits t) t.tall ≡ true
  each_tall =
      second_also (every (rule_fits t) t.rules) (every (tall_fits t) t.tall) (second_also (start_fits t) _ rules_do)

  -- the rule of each number, which may stand for rule 0
  abbrev start_rule : Rule
  start_rule = rule t.whole (Nonterminal t.start ∷ [])

  start_rule_fits : rule_fits t zero start_rule ≡ true
  start_rule_fits = first_also (rule_fits t zero start_rule) _ start_does

  pub first_symbol : (q : ℕ) → first_fits t (rule_at t q) ≡ true
  first_symbol q =
      given_find (λ r. first_fits t r ≡ true) t.rules q start_rule
      (first_also (first_fits t start_rule) _ start_rule_fits)
      (λ r is. first_also (first_fits t r) _ (every_find (rule_fits t) t.rules q r each_rule is))

  pub each_symbol : (q : ℕ) → all (symbol_fits t) (right t q) ≡ true
  each_symbol q =
      given_find (λ r. all (symbol_fits t) (right_of r) ≡ true) t.rules q start_rule
      (first_also (all (symbol_fits t) (right_of start_rule)) _
      (second_also (first_fits t start_rule) _ start_rule_fits))
      (λ r is. first_also (all (symbol_fits t) (right_of r)) _
      (second_also (first_fits t r) _ (every_find (rule_fits t) t.rules q r each_rule is)))

  -- a rule is among those of its left side
  pub of_its_side : (p : ℕ) → (left t p ≡ t.whole → ⊥)
      → any (λ q. nat_eq q p) (given [] (find t.sides (left t p))) ≡ true
  of_its_side p =
      given_find (λ r. (left_of r ≡ t.whole → ⊥)
      → any (λ q. nat_eq q p) (given [] (find t.sides (left_of r))) ≡ true) t.rules p start_rule
      (λ other. absurd (other refl))
      (λ r is other. second_also (all (symbol_fits t) (right_of r)) _
      (second_also (first_fits t r) _ (every_find (rule_fits t) t.rules p r each_rule is)))

  -- the tests of the state of each number, which may have no items
  pub safe_at : (s : ℕ) → row_safe t s (row_at t s) ≡ true
  safe_at s = every_given (row_safe t) t.states s (at [] [] [] [] []) rows_safe refl

  pub full_at : (s : ℕ) → row_full t s (row_at t s) ≡ true
  full_at s = every_given (row_full t) t.states s (at [] [] [] [] []) rows_full refl

  -- each test of a state that is safe
  pub kernels_safe : (s : ℕ) → all (kernel_safe t s) (kernel_of (row_at t s)) ≡ true
  kernels_safe s = first_also _ _ (safe_at s)

  pub begins_safe : (s : ℕ) → all (begin_safe t (row_at t s)) (closed_of (row_at t s)) ≡ true
  begins_safe s = first_also _ _ (second_also (all (kernel_safe t s) (kernel_of (row_at t s))) _ (safe_at s))

  moves_safe : (s : ℕ)
      → also (all (shift_safe t (row_at t s)) (shifts_of (row_at t s)))
      (also (all (goto_safe t (row_at t s)) (gotos_of (row_at t s)))
      (all (reduce_safe t (row_at t s)) (reduces_of (row_at t s)))) ≡ true
  moves_safe s =
      second_also (all (begin_safe t (row_at t s)) (closed_of (row_at t s))) _
      (second_also (all (kernel_safe t s) (kernel_of (row_at t s))) _ (safe_at s))

  pub shifts_safe : (s : ℕ) → all (shift_safe t (row_at t s)) (shifts_of (row_at t s)) ≡ true
  shifts_safe s = first_also _ _ (moves_safe s)

  pub gotos_safe : (s : ℕ) → all (goto_safe t (row_at t s)) (gotos_of (row_at t s)) ≡ true
  gotos_safe s =
      first_also _ _ (second_also (all (shift_safe t (row_at t s)) (shifts_of (row_at t s))) _ (moves_safe s))

  pub reduces_safe : (s : ℕ) → all (reduce_safe t (row_at t s)) (reduces_of (row_at t s)) ≡ true
  reduces_safe s =
      second_also (all (goto_safe t (row_at t s)) (gotos_of (row_at t s))) _
      (second_also (all (shift_safe t (row_at t s)) (shifts_of (row_at t s))) _ (moves_safe s))

  -- a nonterminal of a closure is not the left side of rule 0
  pub not_the_whole : (s n : ℕ) (b : Begin) → begin_safe t (row_at t s) (n, b) ≡ true → n ≡ t.whole → ⊥
  not_the_whole s n (begin_at rank q d mask) is same =
      not_true (nat_eq n t.whole) (first_also _ _ is) (eq-eqb n t.whole same)

  -- an item of a state is in its kernel, or has its dot at the start and is in its closure
  abbrev pub In_kernel : (s p d : ℕ) → (ℕ → Bool) → Type 0
  In_kernel s p d test =
      (mask : ℕ) × (kernel_safe t s (p, d, mask) ≡ true)
      × (item t (row_at t s) p d mask (drop d (right t p)) ≡ true) × (test mask ≡ true)

  abbrev pub Is_begun : (s p d : ℕ) → (ℕ → Bool) → Type 0
  Is_begun s p d test =
      (d ≡ zero) × (b : Begin) × (seek (closed_of (row_at t s)) (left t p) ≡ Some b)
      × (begin_safe t (row_at t s) (left t p, b) ≡ true) × (begin_full t (row_at t s) (left t p, b) ≡ true)
      × (test (mask_of b) ≡ true)

  -- the closure of a state at the left side of a rule
  abbrev closure : (s p : ℕ) → Option Begin
  closure s p = seek (closed_of (row_at t s)) (left t p)

  pub ways : (s p d : ℕ) (test : ℕ → Bool) → has t (row_at t s) p d test ≡ true
      → In_kernel s p d test ⊎ Is_begun s p d test
  ways s p d test is =
      by (in_either (any (is_item p d test) (kernel_of (row_at t s)))
      (also (nat_eq d zero) (holds (λ b. test (mask_of b)) (closure s p))) is)
    where
      kernel : any (is_item p d test) (kernel_of (row_at t s)) ≡ true → In_kernel s p d test
      kernel found =
          let each_passes =
          all_also (kernel_safe t s) (kernel_full t (row_at t s)) (kernel_of (row_at t s)) (kernels_safe s)
          (first_also _ _ (full_at s)) in
          let (e, passes, is) =
          all_any (λ e. also (kernel_safe t s e) (kernel_full t (row_at t s) e)) (is_item p d test)
          (kernel_of (row_at t s)) each_passes found in
          let (same_p, same_d, so) = item_parts p d test e is in (
            e.2,
            at_item (λ p d mask. kernel_safe t s (p, d, mask) ≡ true) p d e same_p same_d
                (first_also (kernel_safe t s e) _ passes),
            at_item (λ p d mask. item t (row_at t s) p d mask (drop d (right t p)) ≡ true) p d e same_p same_d
                (second_also (kernel_safe t s e) (kernel_full t (row_at t s) e) passes),
            so,
          )

      begun : also (nat_eq d zero) (holds (λ b. test (mask_of b)) (closure s p)) ≡ true → Is_begun s p d test
      begun found =
          let (b, here, so) =
          in_holds (λ b. test (mask_of b)) (closure s p) (second_also (nat_eq d zero) _ found) in (
            eqb-true _ _ (first_also (nat_eq d zero) _ found),
            b,
            here,
            all_seek (begin_safe t (row_at t s)) (closed_of (row_at t s)) (left t p) b (begins_safe s) here,
            all_seek (begin_full t (row_at t s)) (closed_of (row_at t s)) (left t p) b
                (second_also (all (kernel_full t (row_at t s)) (kernel_of (row_at t s))) _ (full_at s)) here,
            so,
          )

      by : (any (is_item p d test) (kernel_of (row_at t s)) ≡ true)
          ⊎ (also (nat_eq d zero) (holds (λ b. test (mask_of b)) (closure s p)) ≡ true)
          → In_kernel s p d test ⊎ Is_begun s p d test
      by (inl here) = inl (kernel here)
      by (inr there) = inr (begun there)

  -- an item of a state has what it asks, for some set of its lookaheads
  pub looked : (s p d : ℕ) (test : ℕ → Bool) → has t (row_at t s) p d test ≡ true
      → (mask : ℕ) × (item t (row_at t s) p d mask (drop d (right t p)) ≡ true) × (test mask ≡ true)
  looked s p d test is = by (ways s p d test is)
    where
      by : In_kernel s p d test ⊎ Is_begun s p d test
          → (mask : ℕ) × (item t (row_at t s) p d mask (drop d (right t p)) ≡ true) × (test mask ≡ true)
      by (inl one) = (one.0, one.2, one.3)
      by (inr (start, b, here, safe, full, so)) =
          let (q, asks, is) =
          all_any (λ q. item t (row_at t s) q zero (mask_of b) (right t q)) (λ q. nat_eq q p)
          (given [] (find t.sides (left t p))) full (of_its_side p (not_the_whole s (left t p) b safe)) in
          let same : q ≡ p = eqb-true _ _ is in (
            mask_of b,
            subst (λ n. item t (row_at t s) p n (mask_of b) (drop n (right t p)) ≡ true) (sym start)
                (subst (λ q. item t (row_at t s) q zero (mask_of b) (right t q) ≡ true) same asks),
            so,
          )

  -- the same by the symbols after its dot
  pub looked_after : (s p : ℕ) (before after : List Symbol) (test : ℕ → Bool) → right t p ≡ both before after
      → has t (row_at t s) p (length before) test ≡ true
      → (mask : ℕ) × (item t (row_at t s) p (length before) mask after ≡ true) × (test mask ≡ true)
  looked_after s p before after test shape is =
      let (mask, asks, so) = looked s p (length before) test is in
      let same : drop (length before) (right t p) ≡ after =
      ap (drop (length before)) shape ∙ after_place before after in
      (mask, subst (λ xs. item t (row_at t s) p (length before) mask xs ≡ true) same asks, so)
