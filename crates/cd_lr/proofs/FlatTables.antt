-- The entries of lists that are those of tables.
use Rattle.std.proofs.Common.{◌≡◌, ◌∙◌, sym, ap, subst, refl, ℕ, zero, ◌+◌, ◌*◌, List, [], ◌∷◌, Some, length}
use Rattle.std.proofs.Common.{Bool, true, false, arith, ltb-true, ltb-false}
use Rattle.std.specs.Prelude.{◌<◌, nat_lt, bytes_eq}
use Rattle.std.proofs.lemmas.Slice.Eq.{bytes_eq-Decides}
use Rattle.cd_lr.specs.Grammar.{Nonterminal}
use Rattle.cd_lr.specs.Tables.{Rule, rule, Row, at, Tables, action_in, seek, gotos_of, left_of, right_of, given}
use Rattle.cd_lr.specs.Tables.{row_at, rule_at, left, right, find}
use Rattle.cd_lr.specs.Flat.{code, decode, entry, entries_before, size, left_below, FlatTables, IsFlat}
use Rattle.cd_lr.proofs.Bools.{every_find}
use Rattle.cd_lr.proofs.Codes.{action_code}
use Rattle.cd_lr.proofs.InOneList.{past_table, in_table, none_past}

module _ (t : Tables) (f : FlatTables) (flat : IsFlat t f) where
  -- a state past the last one has no row, and no entries
  row_entry : (cell : Row → ℕ → ℕ) (count : ℕ) (list : List ℕ)
      → bytes_eq list (entries_before cell count t.states []) ≡ true → (s k : ℕ) → k < count
      → cell (at [] [] [] [] []) k ≡ zero → entry list (s * count + k) ≡ cell (row_at t s) k
  row_entry cell count list is s k less none =
      ap (λ all. entry all (s * count + k)) ((bytes_eq-Decides list (entries_before cell count t.states [])).0 is)
      ∙ by (nat_lt s (size t.states)) refl
    where
      by : (small : Bool) → nat_lt s (size t.states) ≡ small
          → entry (entries_before cell count t.states []) (s * count + k) ≡ cell (row_at t s) k
      by true small =
          let within = ltb-true s (size t.states) small in
          let found = in_table cell count t.states zero [] flat.rows_numbered s within in
          let number : zero + s ≡ s = omega arith in
          let row : row_at t s ≡ found.0 = ap (row_at t) (sym number) ∙ ap (given (at [] [] [] [] [])) found.1 in
          found.2 k less ∙ ap (λ r. cell r k) (sym row)
      by false large =
          let more = ltb-false s (size t.states) large in
          let absent = none_past t.states zero s flat.rows_numbered (omega (arith, more)) in
          past_table cell count t.states s k more ∙ sym none
          ∙ ap (λ r. cell r k) (sym (ap (given (at [] [] [] [] [])) absent))

  -- what an entry stands for is what the tables do
  pub action_entry : (s k : ℕ) → k < f.terminals
      → decode (entry f.actions (s * f.terminals + k)) ≡ action_in t (row_at t s) k
  action_entry s k less =
      ap decode (row_entry (λ row k. code (action_in t row k)) f.terminals f.actions flat.actions s k less refl)
      ∙ action_code t flat.rows_coded s k

  pub goto_entry : (s n : ℕ) → n < f.nonterminals
      → entry f.gotos (s * f.nonterminals + n) ≡ given zero (seek (gotos_of (row_at t s)) n)
  goto_entry s n less =
      row_entry (λ row n. given zero (seek (gotos_of row) n)) f.nonterminals f.gotos flat.gotos s n less refl

  -- a rule has its left side, and as many parts
  rule_entry : (cell : Rule → ℕ) (list : List ℕ) → bytes_eq list (entries_before (λ r k. cell r) 1 t.rules []) ≡ true
      → (p : ℕ) → p < size t.rules
      → (r : Rule) × (find t.rules p ≡ Some r) × (rule_at t p ≡ r) × (entry list p ≡ cell (rule_at t p))
  rule_entry cell list is p small =
      let found = in_table (λ r k. cell r) 1 t.rules zero [] flat.rules_numbered p small in
      let number : zero + p ≡ p = omega arith in
      let here : find t.rules p ≡ Some found.0 = ap (find t.rules) (sym number) ∙ found.1 in
      let same : rule_at t p ≡ found.0 = ap (given (rule t.whole (Nonterminal t.start ∷ []))) here in
      let place : p ≡ p * 1 + 0 = omega arith in
      let alike = (bytes_eq-Decides list (entries_before (λ r k. cell r) 1 t.rules [])).0 is in (
        found.0,
        here,
        same,
        ap (entry list) place ∙ ap (λ all. entry all (p * 1 + 0)) alike ∙ found.2 0 (omega arith) ∙ ap cell (sym same),
      )

  pub left_entry : (p : ℕ) → p < size t.rules → (entry f.lefts p ≡ left t p) × (left t p < f.nonterminals)
  left_entry p small =
      let found = rule_entry left_of f.lefts flat.lefts p small in
      let below = every_find (left_below f.nonterminals) t.rules p found.0 flat.lefts_below found.1 in
      (found.3, subst (λ r. left_of r < f.nonterminals) (sym found.2) (ltb-true _ _ below))

  pub length_entry : (p : ℕ) → p < size t.rules → entry f.lengths p ≡ length (right t p)
  length_entry p small = (rule_entry (λ r. length (right_of r)) f.lengths flat.lengths p small).3
