-- Tables that fit are safe.
use Rattle.std.proofs.Common.{◌≡◌, ◌∙◌, sym, ap, subst, refl, ℕ, zero, suc, List, [], ◌∷◌, Some, Bool, true, false, drop, length, arith, eqb-true, eq-eqb, ltb-true, inl, inr}
use Rattle.std.specs.Prelude.{◌⊎◌, ◌≢◌, ◌<◌, nat_eq}
use Rattle.cd_lr.specs.Grammar.{Symbol, Terminal, Nonterminal}
use Rattle.cd_lr.specs.Automaton.{Shift, Reduce, Accept}
use Rattle.cd_lr.specs.Valid.{Goes, Leads, IsSafe}
use Rattle.cd_lr.specs.Tables.{Begin, begin_at, Tables, also, not, any, all, every, seek, given, holds, kernel_of, closed_of, shifts_of, gotos_of, mask_of, row_at, left, right, among, inside, action_in, machine, head_is, rank_in}
use Rattle.cd_lr.specs.Validator.{core, sure, kept, row_safe, row_full, rules_fit, first_mask, came, arrives, nonempty, kernel_safe, begin_safe, shift_safe, goto_safe, reduce_safe, rank_at}
use Rattle.cd_lr.specs.TableGrammar.{grammar, Core, ranks}
use Rattle.cd_lr.proofs.Bools.{first_also, second_also, in_either, left_either, right_either, not_true, all_any, any_more, all_seek, in_holds, to_holds, same_symbols, has_head}
use Rattle.cd_lr.proofs.Lists.{after_place, split, turned}
use Rattle.cd_lr.proofs.Looked.{is_item, item_parts, item_more, at_item, looked_after, start_does, ways, In_kernel, Is_begun, shifts_safe, gotos_safe, reduces_safe, not_the_whole}
use Rattle.cd_lr.proofs.Actions.{shift_found, reduce_found, accept_found}
use Rattle.cd_lr.proofs.Full.{right_zero, whole_left}
use Rattle.cd_lr.proofs.Productive.{can_be_read}

module _ (t : Tables) where
  -- in a kernel only rule 0 has its dot at the start, and only at state 0
  kernel_start : (s p mask : ℕ) → kernel_safe t s (p, zero, mask) ≡ true → (s ≡ zero) × (p ≡ zero)
  kernel_start s p mask is =
      by (in_either (also (nat_eq s zero) (nat_eq p zero)) (also (not (nat_eq s zero)) false) is)
    where
      by : (also (nat_eq s zero) (nat_eq p zero) ≡ true) ⊎ (also (not (nat_eq s zero)) false ≡ true)
          → (s ≡ zero) × (p ≡ zero)
      by (inl here) = (
        eqb-true _ _ (first_also (nat_eq s zero) _ here),
        eqb-true _ _ (second_also (nat_eq s zero) _ here),
      )
      by (inr there) = absurd (let no : false ≡ true = second_also (not (nat_eq s zero)) false there in cc)

  -- at state 0 no item of the kernel has its dot past the start
  kernel_past : (p d mask : ℕ) → kernel_safe t zero (p, suc d, mask) ≡ true → ⊥
  kernel_past p d mask is = by (in_either (also (nat_eq (suc d) zero) (nat_eq p zero)) false is)
    where
      by : (also (nat_eq (suc d) zero) (nat_eq p zero) ≡ true) ⊎ (false ≡ true) → ⊥
      by (inl here) =
          let none : suc d ≡ zero = eqb-true _ _ (first_also (nat_eq (suc d) zero) _ here) in omega (arith, none)
      by (inr there) = cc

module _ (t : Tables) (rules_do : rules_fit t ≡ true) (rows_safe : every (row_safe t) t.states ≡ true)
    (rows_full : every (row_full t) t.states ≡ true) where
  -- each shift, and each goto over a nonterminal before which a dot stands, passes its test
  shift_checked : (s k w next : ℕ) → action_in t (row_at t s) k ≡ Shift w next
      → shift_safe t (row_at t s) (k, (w, next)) ≡ true
  shift_checked s k w next is =
      all_seek (shift_safe t (row_at t s)) (shifts_of (row_at t s)) k (w, next)
      (shifts_safe t rules_do rows_safe rows_full s) (shift_found t (row_at t s) k w next is)

  goto_checked : (s n p : ℕ) (before after : List Symbol) (a : ℕ) → Core t s p before (Nonterminal n ∷ after) a
      → arrives t (row_at t s) (Nonterminal n) (given zero (seek (gotos_of (row_at t s)) n)) ≡ true
  goto_checked s n p before after a (shape, is) =
      let (mask, asks, so) =
      looked_after t rules_do rows_safe rows_full s p before (Nonterminal n ∷ after) (λ mask. true) shape is in
      let (to, leads, keeps) =
      in_holds (λ to. kept t (row_at t to) p (suc (length before)) mask) (seek (gotos_of (row_at t s)) n)
      (second_also (holds (λ c. inside (first_mask t after mask) (mask_of c)) (seek (closed_of (row_at t s)) n)) _
      asks) in
      subst (λ next. arrives t (row_at t s) (Nonterminal n) next ≡ true) (sym (ap (given zero) leads))
      (all_seek (goto_safe t (row_at t s)) (gotos_of (row_at t s)) n to (gotos_safe t rules_do rows_safe rows_full s)
      leads)

  -- the state to which a symbol leads has what came over the symbol
  pub led : (s : ℕ) (x : Symbol) (next : ℕ) → Leads (machine t) (Core t) s x next → arrives t (row_at t s) x next ≡ true
  led s (Terminal w k) next leads = second_also (not (nat_eq k t.finish)) _ (shift_checked s k w next leads.0)
  led s (Nonterminal n) next (to, (p, before, after, a, is)) =
      subst (λ m. arrives t (row_at t s) (Nonterminal n) m ≡ true) to (goto_checked s n p before after a is)

  -- the ways in which a state has an item, with any lookaheads
  abbrev any_mask : ℕ → Bool
  any_mask mask = true

  abbrev Ways : (s p d : ℕ) → Type 0
  Ways s p d =
      In_kernel t rules_do rows_safe rows_full s p d any_mask
      ⊎ Is_begun t rules_do rows_safe rows_full s p d any_mask

  core_ways : (s p d : ℕ) → core t (row_at t s) p d ≡ true → Ways s p d
  core_ways s p d is = ways t rules_do rows_safe rows_full s p d any_mask is

  -- an item with its dot past the start is in the kernel
  deep : (s p d : ℕ) → core t (row_at t s) p (suc d) ≡ true
      → any (is_item p (suc d) any_mask) (kernel_of (row_at t s)) ≡ true
  deep s p d is =
      by (in_either (any (is_item p (suc d) any_mask) (kernel_of (row_at t s)))
      (also (nat_eq (suc d) zero) (holds (λ b. true) (seek (closed_of (row_at t s)) (left t p)))) is)
    where
      by : (any (is_item p (suc d) any_mask) (kernel_of (row_at t s)) ≡ true)
          ⊎ (also (nat_eq (suc d) zero) (holds (λ b. true) (seek (closed_of (row_at t s)) (left t p))) ≡ true)
          → any (is_item p (suc d) any_mask) (kernel_of (row_at t s)) ≡ true
      by (inl here) = here
      by (inr there) =
          let none : suc d ≡ zero = eqb-true _ _ (first_also (nat_eq (suc d) zero) _ there) in
          absurd (omega (arith, none))

  -- an item of the state to which a symbol leads came from the state before, over the symbol
  back : (s next p : ℕ) (x y : Symbol) (before after : List Symbol) (a : ℕ) → Leads (machine t) (Core t) s y next
      → Core t next p (x ∷ before) after a → (x ≡ y) × (b : ℕ) × Core t s p before (x ∷ after) b
  back s next p x y before after a leads (shape, is) =
      let checked =
      second_also (nonempty t (kernel_of (row_at t next))) _ (second_also (not (nat_eq next zero)) _
      (led s y next leads)) in
      let (e, over, found) =
      all_any (λ e. came t (row_at t s) y e.0 e.1) (is_item p (suc (length before)) any_mask)
      (kernel_of (row_at t next)) checked (deep next p (length before) is) in
      let (same_p, same_d, any) = item_parts p (suc (length before)) any_mask e found in
      let so : came t (row_at t s) y p (suc (length before)) ≡ true =
      at_item (λ p d mask. came t (row_at t s) y p d ≡ true) p (suc (length before)) e same_p same_d over in
      let here : drop (length before) (right t p) ≡ x ∷ after =
      ap (drop (length before)) shape ∙ after_place before (x ∷ after) in
      let head : head_is y (x ∷ after) ≡ true =
      subst (λ xs. head_is y xs ≡ true) here (first_also (head_is y (drop (length before) (right t p))) _ so) in
      (sym (same_symbols y x head), zero, (shape, second_also (head_is y (drop (length before) (right t p))) _ so))

  first_state : (p : ℕ) (x : Symbol) (before after : List Symbol) (a : ℕ) → Core t zero p (x ∷ before) after a → ⊥
  first_state p x before after a (shape, is) = by (core_ways zero p (suc (length before)) is)
    where
      by : Ways zero p (suc (length before)) → ⊥
      by (inl one) = kernel_past t p (length before) one.0 one.1
      by (inr one) = let none : suc (length before) ≡ zero = one.0 in omega (arith, none)

  no_way_back : (s : ℕ) (x : Symbol) → Leads (machine t) (Core t) s x zero → ⊥
  no_way_back s x leads = let no : false ≡ true = led s x zero leads in cc

  starts_once : (s : ℕ) (after : List Symbol) (a : ℕ) → Core t s zero [] after a → s ≡ zero
  starts_once s after a (shape, is) = by (core_ways s zero zero is)
    where
      by : Ways s zero zero → s ≡ zero
      by (inl one) = (kernel_start t s zero one.0 one.1).0
      by (inr one) =
          absurd (not_the_whole t rules_do rows_safe rows_full s (left t zero) one.1 one.3
          (whole_left t rules_do rows_safe rows_full))

  -- an item of another rule with its dot at the start is in the closure, by an item of smaller rank
  abbrev Parent : (s p : ℕ) → Type 0
  Parent s p =
      (q : ℕ) × (before : List Symbol) × (rest : List Symbol) × (b : ℕ)
      × Core t s q before (Nonterminal (left t (suc p)) ∷ rest) b × (ranks t s q before < ranks t s (suc p) [])

  parent : (s p : ℕ) (after : List Symbol) (a : ℕ) → Core t s (suc p) [] after a → Parent s p
  parent s p after a (shape, is) = by (core_ways s (suc p) zero is)
    where
      begun : (b : Begin) → seek (closed_of (row_at t s)) (left t (suc p)) ≡ Some b
          → begin_safe t (row_at t s) (left t (suc p), b) ≡ true → Parent s p
      begun (begin_at rank q d mask) is so =
          let one = second_also (not (nat_eq (left t (suc p)) t.whole)) _ so in
          let two = second_also (core t (row_at t s) q d) _ one in
          let head = has_head (Nonterminal (left t (suc p))) (drop d (right t q)) (first_also _ _ two) in
          let place = split d (right t q) (Nonterminal (left t (suc p))) head.0 head.1 in
          let less : rank_at t (row_at t s) q d < rank =
          ltb-true (rank_at t (row_at t s) q d) rank
          (second_also (head_is (Nonterminal (left t (suc p))) (drop d (right t q))) _ two) in
          let here : ranks t s (suc p) [] ≡ rank = ap rank_in is in (
            q,
            place.0,
            head.0,
            zero,
            (
              place.2,
              subst (λ n. core t (row_at t s) q n ≡ true) (sym place.1) (first_also (core t (row_at t s) q d) _ one),
            ),
            subst (λ n. rank_at t (row_at t s) q n < ranks t s (suc p) []) (sym place.1)
                (subst (λ n. rank_at t (row_at t s) q d < n) (sym here) less),
          )

      by : Ways s (suc p) zero → Parent s p
      by (inl one) =
          let none : suc p ≡ zero = (kernel_start t s (suc p) one.0 one.1).1 in absurd (omega (arith, none))
      by (inr one) = begun one.1 one.2 one.3

  -- a terminal that is shifted leads to a kernel of which some item came over it
  shift_goes : (s w k next : ℕ) → action_in t (row_at t s) k ≡ Shift w next → Goes (Core t) s (Terminal w k)
  shift_goes s w k next is =
      let checked =
      second_also (not (nat_eq next zero)) _ (second_also (not (nat_eq k t.finish)) _
      (shift_checked s k w next is)) in
      by (kernel_of (row_at t next)) (first_also _ _ checked)
      (second_also (nonempty t (kernel_of (row_at t next))) _ checked)
    where
      one : (p d : ℕ) → came t (row_at t s) (Terminal w k) p d ≡ true → Goes (Core t) s (Terminal w k)
      one p zero is = absurd cc
      one p (suc d) is =
          let head = has_head (Terminal w k) (drop d (right t p)) (first_also _ _ is) in
          let place = split d (right t p) (Terminal w k) head.0 head.1 in
          let here = second_also (head_is (Terminal w k) (drop d (right t p))) _ is in (
            p,
            place.0,
            head.0,
            zero,
            (place.2, subst (λ n. core t (row_at t s) p n ≡ true) (sym place.1) here),
          )

      by : (es : List (ℕ × ℕ × ℕ)) → nonempty t es ≡ true
          → all (λ e. came t (row_at t s) (Terminal w k) e.0 e.1) es ≡ true → Goes (Core t) s (Terminal w k)
      by [] is so = absurd cc
      by (e ∷ es) is so = one e.0 e.1 (first_also _ _ so)

  -- a rule that is reduced, or accepted, has its dot at the end
  reduce_has : (s p k : ℕ) → action_in t (row_at t s) k ≡ Reduce p
      → (q : ℕ) × (p ≡ suc q) × (before : List Symbol) × (a : ℕ) × Core t s p before [] a
      × (length (right t p) ≡ length before)
  reduce_has s p k is =
      let checked = reduces_safe t rules_do rows_safe rows_full s in
      let found = reduce_found t (row_at t s) (reduce_safe t (row_at t s)) k p checked is in
      let place = turned (right t p) in (
        found.0,
        found.1,
        place.0,
        zero,
        (place.2, subst (λ n. core t (row_at t s) p n ≡ true) place.1 found.3),
        place.1,
      )

  accept_has : (s k : ℕ) → action_in t (row_at t s) k ≡ Accept
      → (k ≡ t.finish) × (a : ℕ) × Core t s zero (Nonterminal t.start ∷ []) [] a
  accept_has s k is =
      let checked = reduces_safe t rules_do rows_safe rows_full s in
      let found = accept_found t (row_at t s) (reduce_safe t (row_at t s)) k checked is in
      let whole = right_zero t rules_do rows_safe rows_full in
      (found.0, zero, (whole, subst (λ xs. core t (row_at t s) zero (length xs) ≡ true) whole found.2))

  no_shift_at_end : (s w next : ℕ) → action_in t (row_at t s) t.finish ≡ Shift w next → ⊥
  no_shift_at_end s w next is =
      not_true (nat_eq t.finish t.finish) (first_also _ _ (shift_checked s t.finish w next is))
      (eq-eqb t.finish t.finish refl)

  -- the start item, which has the end among its lookaheads
  start_item : Core t zero zero [] (Nonterminal t.start ∷ []) t.finish
  start_item = (
    right_zero t rules_do rows_safe rows_full,
    weaker (first_also (sure t (row_at t zero) zero zero t.finish) _
        (second_also _ _ (start_does t rules_do rows_safe rows_full))),
  )
    where
      in_closure : Bool
      in_closure = holds (λ b. among t.finish (mask_of b)) (seek (closed_of (row_at t zero)) (left t zero))

      weaker : sure t (row_at t zero) zero zero t.finish ≡ true → core t (row_at t zero) zero zero ≡ true
      weaker is = by (in_either (any (is_item zero zero (among t.finish)) (kernel_of (row_at t zero))) in_closure is)
        where
          by : (any (is_item zero zero (among t.finish)) (kernel_of (row_at t zero)) ≡ true) ⊎ (in_closure ≡ true)
              → core t (row_at t zero) zero zero ≡ true
          by (inl here) =
              left_either _ _ (any_more (is_item zero zero (among t.finish)) (is_item zero zero any_mask)
              (kernel_of (row_at t zero))
              (λ e. item_more zero zero (among t.finish) any_mask e (λ mask so. refl)) here)
          by (inr there) =
              let (b, found, so) =
              in_holds (λ b. among t.finish (mask_of b)) (seek (closed_of (row_at t zero)) (left t zero)) there in
              right_either _ _ (to_holds (λ b. true) (seek (closed_of (row_at t zero)) (left t zero)) b found refl)

  -- Tables that fit are safe, where no token has the terminal of the end, and each terminal with a
  -- smaller number is that of a free token.
  pub is_safe : {Token Value : Type 0} (kind : Token → ℕ) (value : Token → Value) (free : Token → Bool)
      (build : ℕ → List Value → Value) → ((token : Token) → kind token ≢ t.finish)
      → ((k : ℕ) → k < t.finish → (token : Token) × (kind token ≡ k) × (free token ≡ true))
      → IsSafe (grammar t kind value free build) (machine t) (Core t) (ranks t)
  is_safe kind value free build not_end some =
      record {
        start_item = start_item;
        shape = λ s p before after a has. has.0;
        start_rule = right_zero t rules_do rows_safe rows_full;
        back = back;
        first_state = first_state;
        no_way_back = no_way_back;
        starts_once = starts_once;
        parent = parent;
        shift_goes = shift_goes;
        reduce_has = reduce_has;
        accept_has = accept_has;
        not_finish = not_end;
        no_shift_at_end = no_shift_at_end;
        productive = λ s p before after a has.
            can_be_read t rules_do rows_safe rows_full kind value free build some p before after has.0;
      }
