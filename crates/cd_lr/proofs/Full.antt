-- Tables that fit are complete.
use Rattle.std.proofs.Common.{◌≡◌, ◌∙◌, sym, ap, subst, refl, ℕ, zero, suc, List, [], ◌∷◌, Option, Some, None, Bool, true, false, length, arith, eqb-true, eq-eqb}
use Rattle.std.specs.Prelude.{◌≢◌, nat_eq, ◌^◌}
use Rattle.cd_lr.specs.Grammar.{Symbol, Terminal, Nonterminal}
use Rattle.cd_lr.specs.Automaton.{Shift, Accept}
use Rattle.cd_lr.specs.Valid.{FirstOf, IsComplete}
use Rattle.cd_lr.specs.Tables.{Rule, rule, Tables, choose, also, all, every, find, seek, given, holds, kernel_of, closed_of, shifts_of, gotos_of, reduces_of, left_of, right_of, mask_of, rule_at, row_at, left, right, among, inside, apart, by_shift, by_rules, read, ended, action_in, machine, head_is}
use Rattle.cd_lr.specs.Validator.{begin_safe, sure, row_safe, row_full, rules_fit, first_fits, first_set, first_mask, item, kept, settled}
use Rattle.cd_lr.specs.TableGrammar.{grammar, Sure, First}
use Rattle.cd_lr.proofs.Bools.{first_also, second_also, left_either, right_either, any_more, all_seek, in_holds, to_holds, inside_more, not_apart, same_symbols}
use Rattle.cd_lr.proofs.Looked.{is_item, item_more, looked_after, begins_safe, not_the_whole, start_does, first_symbol}
use Rattle.std.specs.Int.Bits.{and_self}

module _ (t : Tables) (rules_do : rules_fit t ≡ true) (rows_safe : every (row_safe t) t.states ≡ true)
    (rows_full : every (row_full t) t.states ≡ true) where
  -- a state that keeps an item with a set of lookaheads has it with each of them
  kept_sure : (s p d mask a : ℕ) → kept t (row_at t s) p d mask ≡ true → among a mask ≡ true
      → sure t (row_at t s) p d a ≡ true
  kept_sure s p d mask a is small =
      left_either _ _ (any_more (is_item p d (inside mask)) (is_item p d (among a)) (kernel_of (row_at t s))
      (λ e. item_more p d (inside mask) (among a) e (λ other. inside_more (2 ^ a) mask other small)) is)

  pub in_first : (k : ℕ) → among k (2 ^ k) ≡ true
  in_first k = eq-eqb _ _ (and_self (2 ^ k))

  first_in : (after : List Symbol) (a b mask : ℕ) → among a mask ≡ true → FirstOf (First t) after a b
      → among b (first_mask t after mask) ≡ true
  first_in [] a b mask small first = subst (λ n. among n mask ≡ true) first small
  first_in (x ∷ after) a b mask small first = first

  -- an item with its dot before a nonterminal: the closure, and the goto
  closed : (s p q : ℕ) (before after : List Symbol) (a b : ℕ) → Sure t s p before (Nonterminal (left t q) ∷ after) a
      → FirstOf (First t) after a b → Sure t s q [] (right t q) b
  closed s p q before after a b (shape, is) first =
      let (mask, asks, small) =
      looked_after t rules_do rows_safe rows_full s p before (Nonterminal (left t q) ∷ after) (among a) shape is in
      let (begun, here, big) =
      in_holds (λ c. inside (first_mask t after mask) (mask_of c)) (seek (closed_of (row_at t s)) (left t q))
      (first_also _ _ asks) in (
        refl,
        right_either _ _ (to_holds (λ c. among b (mask_of c)) (seek (closed_of (row_at t s)) (left t q)) begun here
            (inside_more (2 ^ b) (first_mask t after mask) (mask_of begun) (first_in after a b mask small first) big)),
      )

  by_rule : (s p n : ℕ) (before after : List Symbol) (a : ℕ) → Sure t s p before (Nonterminal n ∷ after) a
      → Sure t (given zero (seek (gotos_of (row_at t s)) n)) p (Nonterminal n ∷ before) after a
  by_rule s p n before after a (shape, is) =
      let (mask, asks, small) =
      looked_after t rules_do rows_safe rows_full s p before (Nonterminal n ∷ after) (among a) shape is in
      let (to, leads, keeps) =
      in_holds (λ to. kept t (row_at t to) p (suc (length before)) mask) (seek (gotos_of (row_at t s)) n)
      (second_also (holds (λ c. inside (first_mask t after mask) (mask_of c)) (seek (closed_of (row_at t s)) n)) _
      asks) in (
        shape,
        subst (λ next. sure t (row_at t next) p (suc (length before)) a ≡ true) (sym (ap (given zero) leads))
            (kept_sure to p (suc (length before)) mask a keeps small),
      )

  -- an item with its dot before a terminal: the shift
  by_token : (s p w k : ℕ) (before after : List Symbol) (a : ℕ) → Sure t s p before (Terminal w k ∷ after) a
      → (next : ℕ) × (action_in t (row_at t s) k ≡ Shift w next) × Sure t next p (Terminal w k ∷ before) after a
  by_token s p w k before after a (shape, is) =
      let (mask, asks, small) =
      looked_after t rules_do rows_safe rows_full s p before (Terminal w k ∷ after) (among a) shape is in
      let (to, leads, passes) =
      in_holds (λ to. also (nat_eq to.0 w) (kept t (row_at t to.1) p (suc (length before)) mask))
      (seek (shifts_of (row_at t s)) k) asks in
      let same : to.0 ≡ w = eqb-true _ _ (first_also (nat_eq to.0 w) _ passes) in (
        to.1,
        ap (λ f. by_shift t f (by_rules t (reduces_of (row_at t s)) k)) leads ∙ ap (λ n. Shift n to.1) same,
        (shape, kept_sure to.1 p (suc (length before)) mask a (second_also (nat_eq to.0 w) _ passes) small),
      )

  -- before a lookahead of a settled rule, that rule is read
  settles : (rs : List (ℕ × ℕ)) (p mask a : ℕ) → settled t rs p mask ≡ true → among a mask ≡ true
      → by_rules t rs a ≡ read t p a
  settles [] p mask a is small = absurd cc
  settles (one ∷ rest) p mask a is small =
      by (nat_eq one.0 p) refl is (among a one.1) refl (settles rest p mask a)
    where
      by : (same : Bool) → nat_eq one.0 p ≡ same
          → choose same (inside mask one.1) (also (apart mask one.1) (settled t rest p mask)) ≡ true
          → (taken : Bool) → among a one.1 ≡ taken
          → (settled t rest p mask ≡ true → among a mask ≡ true → by_rules t rest a ≡ read t p a)
          → choose taken (read t one.0 a) (by_rules t rest a) ≡ read t p a
      by true same is true so later = ap (λ q. read t q a) (eqb-true _ _ same)
      by true same is false so later =
          let not : true ≡ false = sym (inside_more (2 ^ a) mask one.1 small is) ∙ so in absurd cc
      by false same is true so later = absurd (not_apart a mask one.1 small (first_also (apart mask one.1) _ is) so)
      by false same is false so later = later (second_also (apart mask one.1) _ is) small

  -- an item with its dot at the end: no lookahead is shifted, and its rule is read
  ended_action : (s p : ℕ) (before : List Symbol) (a : ℕ) → Sure t s p before [] a
      → action_in t (row_at t s) a ≡ read t p a
  ended_action s p before a (shape, is) =
      let (mask, asks, small) =
      looked_after t rules_do rows_safe rows_full s p before [] (among a) shape is in
      by (seek (shifts_of (row_at t s)) a) refl mask asks small
    where
      by : (shift : Option (ℕ × ℕ)) → seek (shifts_of (row_at t s)) a ≡ shift → (mask : ℕ)
          → item t (row_at t s) p (length before) mask [] ≡ true → among a mask ≡ true
          → by_shift t shift (by_rules t (reduces_of (row_at t s)) a) ≡ read t p a
      by None found mask is small =
          settles (reduces_of (row_at t s)) p mask a
          (second_also (all (λ to. apart mask (2 ^ to.0)) (shifts_of (row_at t s))) _ is) small
      by (Some to) found mask is small =
          let disjoint =
          all_seek (λ to. apart mask (2 ^ to.0)) (shifts_of (row_at t s)) a to (first_also _ _ is) found in
          absurd (not_apart a mask (2 ^ a) small disjoint (in_first a))

  -- a right side is not empty, and its left side begins with what its first symbol begins with
  first_of : (r : Rule) (b : ℕ) (x : Symbol) (rest : List Symbol) → first_fits t r ≡ true → right_of r ≡ x ∷ rest
      → First t x b → First t (Nonterminal (left_of r)) b
  first_of (rule l []) b x rest is shape first = absurd cc
  first_of (rule l (y ∷ ys)) b x rest is shape first =
      let same : y ≡ x = cc in
      inside_more (2 ^ b) (first_set t x) (first_set t (Nonterminal l)) first
      (subst (λ z. inside (first_set t z) (first_set t (Nonterminal l)) ≡ true) same is)

  first_of_rule : (q b : ℕ) (x : Symbol) (rest : List Symbol) → right t q ≡ x ∷ rest → First t x b
      → First t (Nonterminal (left t q)) b
  first_of_rule q b x rest = first_of (rule_at t q) b x rest (first_symbol t rules_do rows_safe rows_full q)

  no_empty : (r : Rule) → first_fits t r ≡ true → right_of r ≢ []
  no_empty (rule l []) is same = absurd cc
  no_empty (rule l (x ∷ rest)) is same = cc

  not_empty : (q : ℕ) → right t q ≢ []
  not_empty q = no_empty (rule_at t q) (first_symbol t rules_do rows_safe rows_full q)

  -- rule 0 is in the tables, and reads the start symbol
  abbrev is_start : Rule → Bool
  is_start r =
      also (nat_eq (left_of r) t.whole)
      (also (head_is (Nonterminal t.start) (right_of r)) (nat_eq (length (right_of r)) 1))

  rule_zero : (r : Rule) × (find t.rules zero ≡ Some r) × (is_start r ≡ true)
  rule_zero =
      in_holds is_start (find t.rules zero) (second_also (sure t (row_at t zero) zero zero t.finish) _
      (second_also _ _ (start_does t rules_do rows_safe rows_full)))

  pub whole_left : left t zero ≡ t.whole
  whole_left =
      let (r, found, is) = rule_zero in
      ap (λ one. left_of (given (rule t.whole (Nonterminal t.start ∷ [])) one)) found
      ∙ eqb-true _ _ (first_also (nat_eq (left_of r) t.whole) _ is)

  only_start : (xs : List Symbol) → head_is (Nonterminal t.start) xs ≡ true → nat_eq (length xs) 1 ≡ true
      → xs ≡ Nonterminal t.start ∷ []
  only_start [] is so = absurd cc
  only_start (x ∷ []) is so = ap (λ z. z ∷ []) (sym (same_symbols (Nonterminal t.start) x is))
  only_start (x ∷ y ∷ rest) is so =
      let long : suc (suc (length rest)) ≡ 1 = eqb-true _ _ so in absurd (omega (arith, long))

  pub right_zero : right t zero ≡ Nonterminal t.start ∷ []
  right_zero =
      let (r, found, is) = rule_zero in
      let rest = second_also (nat_eq (left_of r) t.whole) _ is in
      ap (λ one. right_of (given (rule t.whole (Nonterminal t.start ∷ [])) one)) found
      ∙ only_start (right_of r) (first_also (head_is (Nonterminal t.start) (right_of r)) _ rest)
      (second_also (head_is (Nonterminal t.start) (right_of r)) _ rest)

  not_whole : (s p q : ℕ) (before after : List Symbol) (a : ℕ) → Sure t s p before (Nonterminal (left t q) ∷ after) a
      → (r : ℕ) × (q ≡ suc r)
  not_whole s p (suc r) before after a has = (r, refl)
  not_whole s p zero before after a (shape, is) =
      let (mask, asks, small) =
      looked_after t rules_do rows_safe rows_full s p before (Nonterminal (left t zero) ∷ after) (among a) shape is in
      let (begun, here, big) =
      in_holds (λ c. inside (first_mask t after mask) (mask_of c)) (seek (closed_of (row_at t s)) (left t zero))
      (first_also _ _ asks) in
      let safe =
      all_seek (begin_safe t (row_at t s)) (closed_of (row_at t s)) (left t zero) begun
      (begins_safe t rules_do rows_safe rows_full s) here in
      absurd (not_the_whole t rules_do rows_safe rows_full s (left t zero) begun safe whole_left)

  -- the start item, and where all is accepted
  start_here : Sure t zero zero [] (Nonterminal t.start ∷ []) t.finish
  start_here = (
    right_zero,
    first_also (sure t (row_at t zero) zero zero t.finish) _
        (second_also _ _ (start_does t rules_do rows_safe rows_full)),
  )

  accepted : (s : ℕ) (before : List Symbol) → Sure t s zero before [] t.finish
      → action_in t (row_at t s) t.finish ≡ Accept
  accepted s before has = ended_action s zero before t.finish has ∙ ap (ended t) (eq-eqb t.finish t.finish refl)

  -- tables that fit are complete, for any terminals and values of tokens
  pub is_complete : {Token Value : Type 0} (kind : Token → ℕ) (value : Token → Value) (free : Token → Bool)
      (build : ℕ → List Value → Value) → IsComplete (grammar t kind value free build) (machine t) (Sure t) (First t)
  is_complete kind value free build =
      record {
        start_here = start_here;
        closed = closed;
        by_token = by_token;
        by_rule = by_rule;
        reduced = λ s p before a has. ended_action s (suc p) before a has;
        accepted = accepted;
        first_token = λ w k. in_first k;
        first_rule = first_of_rule;
        not_empty = not_empty;
        not_whole = not_whole;
      }
