-- The number of an action stands for that action.
use Rattle.std.proofs.Common.{◌≡◌, ◌∙◌, ap, ap₂, refl, ℕ, zero, suc, ◌+◌, ◌-◌, List, [], ◌∷◌, Bool, true, false, arith, ne_eqb, lt-ltb, le-ltb, ltb-true}
use Rattle.std.specs.Prelude.{◌<◌, ◌/◌, ◌%◌, nat_eq, nat_lt}
use Rattle.cd_lr.specs.Automaton.{Action, Shift, Reduce, Accept, Refuse}
use Rattle.std.specs.Prelude.{Option, Some, None, if◌then◌else◌}
use Rattle.cd_lr.specs.Tables.{Tables, at, choose, every, seek, among, row_at, action_in, by_shift, by_rules, read, ended, shifts_of, reduces_of}
use Rattle.cd_lr.specs.Flat.{code, decode, shift_coded, row_coded}
use Rattle.cd_lr.proofs.Bools.{first_also, second_also, all_seek, every_given}

-- the levels and the state of a shift are found from its number
packed_opens : (state opens : ℕ) → opens < 2 → ((((state + state) + opens) + 2) - 2) % 2 ≡ opens
packed_opens state opens small = omega (arith, small)

packed_state : (state opens : ℕ) → opens < 2 → ((((state + state) + opens) + 2) - 2) / 2 ≡ state
packed_state state opens small = omega (arith, small)

-- the tests that distinguish the kinds of actions, in their order
tested : (n : ℕ) (zero_is one_is small : Bool) → nat_eq n 0 ≡ zero_is → nat_eq n 1 ≡ one_is → nat_lt n 2000 ≡ small
    → decode n
    ≡ (if zero_is then Refuse else if one_is then Accept
    else if small then Shift ((n - 2) % 2) ((n - 2) / 2) else Reduce (n - 2000))
tested n zero_is one_is small a b c =
    ap (λ z. if z then Refuse else if nat_eq n 1 then Accept else if nat_lt n 2000 then shifts else reduces) a
    ∙ ap (λ z. if zero_is then Refuse else if z then Accept else if nat_lt n 2000 then shifts else reduces) b
    ∙ ap (λ z. if zero_is then Refuse else if one_is then Accept else if z then shifts else reduces) c
  where
    shifts : Action
    shifts = Shift ((n - 2) % 2) ((n - 2) / 2)

    reduces : Action
    reduces = Reduce (n - 2000)

-- the number of a shift, which is from 2 to 1999
shift_code : (opens state : ℕ) → opens < 2 → state < 999 → decode (code (Shift opens state)) ≡ Shift opens state
shift_code opens state small fits =
    tested (((state + state) + opens) + 2) false false true (ne_eqb _ 0 (λ is. omega (arith, is)))
    (ne_eqb _ 1 (λ is. omega (arith, is)))
    (lt-ltb (((state + state) + opens) + 2) 2000 (omega (arith, small, fits)))
    ∙ ap₂ Shift (packed_opens state opens small) (packed_state state opens small)

-- the number of a reduce, which is 2000 or more
reduce_code : (p : ℕ) → decode (code (Reduce p)) ≡ Reduce p
reduce_code p =
    tested (p + 2000) false false false (ne_eqb _ 0 (λ is. omega (arith, is))) (ne_eqb _ 1 (λ is. omega (arith, is)))
    (le-ltb (p + 2000) 2000 (omega arith))
    ∙ ap Reduce (omega arith)

module _ (t : Tables) (coded : every row_coded t.states ≡ true) where
  ended_code : (b : Bool) → decode (code (ended t b)) ≡ ended t b
  ended_code true = refl
  ended_code false = refl

  read_code : (p k : ℕ) → decode (code (read t p k)) ≡ read t p k
  read_code zero k = ended_code (nat_eq k t.finish)
  read_code (suc p) k = reduce_code (suc p)

  rules_code : (rs : List (ℕ × ℕ)) (k : ℕ) → decode (code (by_rules t rs k)) ≡ by_rules t rs k
  rules_code [] k = refl
  rules_code (one ∷ rest) k = by (among k one.1) (rules_code rest k)
    where
      chosen : Bool → Action
      chosen taken = choose taken (read t one.0 k) (by_rules t rest k)

      by : (taken : Bool) → decode (code (by_rules t rest k)) ≡ by_rules t rest k
          → decode (code (chosen taken)) ≡ chosen taken
      by true later = read_code one.0 k
      by false later = later

  -- an action of the tables, each of whose shifts has a number
  pub action_code : (s k : ℕ) → decode (code (action_in t (row_at t s) k)) ≡ action_in t (row_at t s) k
  action_code s k = by (seek (shifts_of (row_at t s)) k) refl
    where
      shifted : Option (ℕ × ℕ) → Action
      shifted found = by_shift t found (by_rules t (reduces_of (row_at t s)) k)

      by : (found : Option (ℕ × ℕ)) → seek (shifts_of (row_at t s)) k ≡ found
          → decode (code (shifted found)) ≡ shifted found
      by None is = rules_code (reduces_of (row_at t s)) k
      by (Some to) is =
          let row = every_given row_coded t.states s (at [] [] [] [] []) coded refl in
          let so = all_seek shift_coded (shifts_of (row_at t s)) k to row is in
          shift_code to.0 to.1 (ltb-true to.0 2 (first_also (nat_lt to.0 2) _ so))
          (ltb-true to.1 999 (second_also (nat_lt to.0 2) (nat_lt to.1 999) so))
