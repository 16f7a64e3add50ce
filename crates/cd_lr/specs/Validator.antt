-- The validator: computed tests of tables, which show that the automaton fits the grammar.
use Rattle.std.specs.Prelude.{ℕ, zero, suc, Bool, true, false, List, [], ◌∷◌, drop, length, nat_eq, nat_lt, ◌^◌}
use Rattle.cd_lr.specs.Grammar.{Symbol, Terminal, Nonterminal}
use Rattle.cd_lr.specs.Weights.{sums}
use Rattle.cd_lr.specs.Tables.{Rule, Begin, Row, choose, also, either, not, find, seek, all, any, every, given, holds, inside, among, apart, head_is, kernel_of, closed_of, shifts_of, gotos_of, reduces_of, left_of, right_of, mask_of, rank_in, Tables, row_at, left, right, rule, begin_at}

-- An item is a rule p and the place d of its dot: how many symbols stand before it.
module _ (t : Tables) where
  -- The state has the item, in its kernel or, with the dot at the start, in its closure, with
  -- lookaheads that pass a test.
  abbrev pub has : Row → (p d : ℕ) → (ℕ → Bool) → Bool
  has row p d test =
      either (any (λ e. also (nat_eq e.0 p) (also (nat_eq e.1 d) (test e.2))) (kernel_of row))
      (also (nat_eq d zero) (holds (λ b. test (mask_of b)) (seek (closed_of row) (left t p))))

  -- the state has the item, with any lookaheads
  abbrev pub core : Row → (p d : ℕ) → Bool
  core row p d = has row p d (λ mask. true)

  -- the state has the item, with this terminal among its lookaheads
  abbrev pub sure : Row → (p d terminal : ℕ) → Bool
  sure row p d k = has row p d (among k)

  -- the rank of an item: that of its closure where the dot is at the start, and else 0
  abbrev pub rank_at : Row → (p d : ℕ) → ℕ
  rank_at row p d = choose (nat_eq d zero) (rank_in (seek (closed_of row) (left t p))) zero

  -- Safety: what each move asks of the state to which it leads, and each item of its own state.

  -- the item has its dot after the symbol, and the state has the item with the dot before it
  abbrev pub came : Row → Symbol → (p d : ℕ) → Bool
  came row x p zero = false
  came row x p (suc d) = also (head_is x (drop d (right t p))) (core row p d)

  abbrev pub nonempty : {A : Type 0} → List A → Bool
  nonempty [] = false
  nonempty (one ∷ rest) = true

  -- the state to which a symbol leads from here is not state 0, it has a kernel, and each item of
  -- the kernel came from here over the symbol
  abbrev pub arrives : Row → Symbol → (next : ℕ) → Bool
  arrives row x next =
      also (not (nat_eq next zero))
      (also (nonempty (kernel_of (row_at t next)))
      (all (λ e. came row x e.0 e.1) (kernel_of (row_at t next))))

  -- a shift is not one of the end, and the next state has what came from here over the terminal
  abbrev pub shift_safe : Row → (ℕ × (ℕ × ℕ)) → Bool
  shift_safe row to = also (not (nat_eq to.0 t.finish)) (arrives row (Terminal to.1.0 to.0) to.1.1)

  -- the state to which a goto leads has what came from here over the nonterminal
  abbrev pub goto_safe : Row → (ℕ × ℕ) → Bool
  goto_safe row to = arrives row (Nonterminal to.0) to.1

  -- a rule is reduced where the state has it with the dot at the end
  abbrev pub reduce_safe : Row → (ℕ × ℕ) → Bool
  reduce_safe row one = core row one.0 (length (right t one.0))

  -- in state 0 the kernel has rule 0 alone, with the dot at the start; in others no dot is there
  abbrev pub kernel_safe : (s : ℕ) → (ℕ × ℕ × ℕ) → Bool
  kernel_safe s e =
      either (also (nat_eq s zero) (also (nat_eq e.1 zero) (nat_eq e.0 zero)))
      (also (not (nat_eq s zero)) (not (nat_eq e.1 zero)))

  -- a nonterminal of the closure is not the left side of rule 0, and an item of the state that has
  -- a smaller rank has its dot before it
  abbrev pub begin_safe : Row → (ℕ × Begin) → Bool
  begin_safe row (n, begin_at rank p d mask) =
      also (not (nat_eq n t.whole))
      (also (core row p d)
      (also (head_is (Nonterminal n) (drop d (right t p))) (nat_lt (rank_at row p d) rank)))

  -- a state passes where its items and its moves do
  abbrev pub row_safe : (s : ℕ) → Row → Bool
  row_safe s row =
      also (all (kernel_safe s) (kernel_of row))
      (also (all (begin_safe row) (closed_of row))
      (also (all (shift_safe row) (shifts_of row))
      (also (all (goto_safe row) (gotos_of row)) (all (reduce_safe row) (reduces_of row)))))

  -- Completeness: what each item asks of its state, and of that to which its next symbol leads.

  -- the terminals with which what a symbol derives may begin, as a set
  abbrev pub first_set : Symbol → ℕ
  first_set (Terminal w k) = 2 ^ k
  first_set (Nonterminal n) = given zero (find t.firsts n)

  -- the same of several symbols, before these lookaheads
  abbrev pub first_mask : List Symbol → ℕ → ℕ
  first_mask [] mask = mask
  first_mask (x ∷ rest) mask = first_set x

  -- the kernel of a state has the item, with all of these lookaheads
  abbrev pub kept : Row → (p d mask : ℕ) → Bool
  kept row p d mask =
      any (λ e. also (nat_eq e.0 p) (also (nat_eq e.1 d) (inside mask e.2))) (kernel_of row)

  -- before each of these lookaheads, the first reduce of a state is that of rule p
  abbrev pub settled : List (ℕ × ℕ) → (p mask : ℕ) → Bool
  settled [] p mask = false
  settled (one ∷ rest) p mask =
      let r = settled rest p mask in
      choose (nat_eq one.0 p) (inside mask one.1) (also (apart mask one.1) r)

  -- What an item asks, by the symbols after its dot. At the end: no lookahead is shifted, and
  -- before each of them the rule is reduced. Before a terminal: it is shifted with its levels, and
  -- the next state has the item with the dot after it. Before a nonterminal: the closure has it,
  -- with what may follow it as lookaheads, and the state to which it leads has the item with the
  -- dot after it.
  abbrev pub item : Row → (p d mask : ℕ) → List Symbol → Bool
  item row p d mask [] =
      also (all (λ to. apart mask (2 ^ to.0)) (shifts_of row)) (settled (reduces_of row) p mask)
  item row p d mask (Terminal w k ∷ after) =
      holds (λ to. also (nat_eq to.0 w) (kept (row_at t to.1) p (suc d) mask))
      (seek (shifts_of row) k)
  item row p d mask (Nonterminal n ∷ after) =
      also (holds (λ b. inside (first_mask after mask) (mask_of b)) (seek (closed_of row) n))
      (holds (λ to. kept (row_at t to) p (suc d) mask) (seek (gotos_of row) n))

  -- an item of the kernel has what it asks
  abbrev pub kernel_full : Row → (ℕ × ℕ × ℕ) → Bool
  kernel_full row e = item row e.0 e.1 e.2 (drop e.1 (right t e.0))

  -- each rule of a nonterminal of the closure has what it asks, with the dot at the start
  abbrev pub begin_full : Row → (ℕ × Begin) → Bool
  begin_full row (n, b) =
      all (λ q. item row q zero (mask_of b) (right t q)) (given [] (find t.sides n))

  -- a state passes where all of its items have what they ask
  abbrev pub row_full : (s : ℕ) → Row → Bool
  row_full s row =
      also (all (kernel_full row) (kernel_of row)) (all (begin_full row) (closed_of row))

  -- The rules: what each asks of the sets and heights of symbols.

  -- a right side is not empty, and what its first symbol may begin with, its left side may too
  abbrev pub first_fits : Rule → Bool
  first_fits (rule l []) = false
  first_fits (rule l (x ∷ rest)) = inside (first_set x) (first_set (Nonterminal l))

  -- a terminal is not the end, and a nonterminal has a height
  abbrev pub symbol_fits : Symbol → Bool
  symbol_fits (Terminal w k) = nat_lt k t.finish
  symbol_fits (Nonterminal n) = holds (λ h. true) (find t.tall n)

  -- a rule passes where its first symbol and each symbol do, and it is listed at its left side
  abbrev pub rule_fits : (q : ℕ) → Rule → Bool
  rule_fits q r =
      also (first_fits r)
      (also (all symbol_fits (right_of r))
      (any (λ p. nat_eq p q) (given [] (find t.sides (left_of r)))))

  -- a terminal is not the end, and a nonterminal has a smaller height than this one
  abbrev pub lower : (height : ℕ) → Symbol → Bool
  lower height (Terminal w k) = nat_lt k t.finish
  lower height (Nonterminal n) = holds (λ h. nat_lt h.0 height) (find t.tall n)

  -- The rule at the height of a nonterminal is one of its rules, and each symbol in it is lower. So
  -- the nonterminal derives some tokens.
  abbrev pub tall_fits : (n : ℕ) → (ℕ × ℕ) → Bool
  tall_fits n h = also (nat_eq (left t h.1) n) (all (lower h.0) (right t h.1))

  -- rule 0 reads the start symbol, and it is in state 0 with the dot at the start, before the end
  abbrev pub start_fits : Bool
  start_fits =
      also (rule_fits zero (rule t.whole (Nonterminal t.start ∷ [])))
      (also (sure (row_at t zero) zero zero t.finish)
      (holds (λ r. also (nat_eq (left_of r) t.whole)
      (also (head_is (Nonterminal t.start) (right_of r)) (nat_eq (length (right_of r)) 1)))
      (find t.rules zero)))

  -- the start and each rule pass, and each height
  abbrev pub rules_fit : Bool
  rules_fit = also start_fits (also (every rule_fits t.rules) (every tall_fits t.tall))

  -- The tables pass where their rules do, and each state is safe and complete. Then the automaton
  -- is complete. It is also safe, where no token has the terminal of the end, and each terminal
  -- with a smaller number is that of a free token.
  abbrev pub fits : Bool
  fits = also rules_fit (also (every row_safe t.states) (every row_full t.states))

  -- Weights: the left side of each rule weighs less than its right side, so that each step makes
  -- the measure of a configuration smaller.

  -- the weight of a symbol
  abbrev pub weight_of : Symbol → ℕ
  weight_of (Terminal w k) = t.top
  weight_of (Nonterminal n) = given zero (find t.weights n)

  -- the weight of the first symbol
  abbrev pub head_weight : List Symbol → ℕ
  head_weight [] = zero
  head_weight (x ∷ rest) = weight_of x

  -- the weight of the symbol before the dot of an item
  abbrev pub passed_weight : (p d : ℕ) → ℕ
  passed_weight p zero = zero
  passed_weight p (suc d) = head_weight (drop d (right t p))

  -- that of the first item of a kernel; in a safe state all have the same symbol before the dot
  abbrev pub kernel_weight : List (ℕ × ℕ × ℕ) → ℕ
  kernel_weight [] = zero
  kernel_weight (e ∷ rest) = passed_weight e.0 e.1

  -- the weight of a state: that of the symbol that leads to it
  abbrev pub state_weight : ℕ → ℕ
  state_weight s = kernel_weight (kernel_of (row_at t s))

  -- the left side of a rule weighs less than its right side
  abbrev pub rule_falls : (q : ℕ) → Rule → Bool
  rule_falls q r = nat_lt (weight_of (Nonterminal (left_of r))) (sums weight_of (right_of r))

  -- the weights pass where each rule does, and so does rule 0
  abbrev pub weights_fit : Bool
  weights_fit =
      also (rule_falls zero (rule t.whole (Nonterminal t.start ∷ []))) (every rule_falls t.rules)
