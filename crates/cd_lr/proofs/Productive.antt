-- What stands in rules can be read.
use Rattle.std.proofs.Common.{◌≡◌, ap, subst, ℕ, zero, suc, List, [], ◌∷◌, Bool, true, arith}
use Rattle.std.proofs.Common.{eqb-true, ltb-true, lt-ltb}
use Rattle.std.specs.Prelude.{◌<◌, ◌≤◌, ◌++◌, nat_eq, nat_lt}
use Rattle.cd_lr.specs.Grammar.{Symbol, Terminal, Nonterminal, Grammar, fits, Derives, one, made, Row, nothing, next}
use Rattle.cd_lr.specs.Grammar.{within, AreFree}
use Rattle.cd_lr.specs.Valid.{both}
use Rattle.cd_lr.specs.Tables.{Tables, all, every, find, left, right}
use Rattle.cd_lr.specs.Validator.{row_safe, row_full, tall_fits, rules_fit, symbol_fits, lower}
use Rattle.cd_lr.specs.TableGrammar.{grammar}
use Rattle.cd_lr.proofs.Free.{both_free}
use Rattle.cd_lr.proofs.Bools.{first_also, second_also, every_find, in_holds, to_holds}
use Rattle.cd_lr.proofs.Lists.{all_after}
use Rattle.cd_lr.proofs.Looked.{each_symbol, each_tall}

module _ (t : Tables) (rules_do : rules_fit t ≡ true) (rows_safe : every (row_safe t) t.states ≡ true)
    (rows_full : every (row_full t) t.states ≡ true) {Token Value : Type 0} (kind : Token → ℕ) (value : Token → Value)
    (free : Token → Bool) (build : ℕ → List Value → Value)
    (some : (k : ℕ) → k < t.finish → (token : Token) × (kind token ≡ k) × (free token ≡ true)) where
  abbrev g : Grammar Token Value
  g = grammar t kind value free build

  -- free tokens derive it, at each depth
  abbrev Can : Symbol → Type 0
  Can x = (tokens : List Token) × (v : Value) × AreFree g tokens × ((depth : ℕ) → Derives g depth x tokens v)

  abbrev CanAll : List Symbol → Type 0
  CanAll xs =
      (tokens : List Token) × (values : List Value) × AreFree g tokens × ((depth : ℕ) → Row g depth xs tokens values)

  token_can : (w k : ℕ) → k < t.finish → Can (Terminal w k)
  token_can w k less =
      let found = some k less in (
        found.0 ∷ [],
        value found.0,
        (found.2, tt),
        λ depth.
            subst (λ n. Derives g depth (Terminal w n) (found.0 ∷ []) (value found.0)) found.1
            (one depth w found.0 (ap (λ is. fits is w depth) found.2)),
      )

  all_can : (test : Symbol → Bool) → ((x : Symbol) → test x ≡ true → Can x) → (xs : List Symbol) → all test xs ≡ true
      → CanAll xs
  all_can test can [] is = ([], [], tt, λ depth. nothing depth)
  all_can test can (x ∷ rest) is =
      let first = can x (first_also (test x) (all test rest) is) in
      let more = all_can test can rest (second_also (test x) (all test rest) is) in (
        first.0 ++ more.0,
        first.1 ∷ more.1,
        both_free (grammar t kind value free build) first.0 more.0 first.2 more.2,
        λ depth.
            next depth x rest first.0 more.0 first.1 more.1 (first.3 depth) (more.3 (within g depth x)),
      )

  rule_can : (n q : ℕ) → left t q ≡ n → CanAll (right t q) → Can (Nonterminal n)
  rule_can n q is all = (
    all.0,
    build q all.1,
    all.2,
    λ depth.
        subst (λ m. Derives g depth (Nonterminal m) all.0 (build q all.1)) is (made depth q all.0 all.1 (all.3 depth)),
  )

  lower_more : (small big : ℕ) (x : Symbol) → small ≤ big → lower t small x ≡ true → lower t big x ≡ true
  lower_more small big (Terminal w k) less is = is
  lower_more small big (Nonterminal n) less is =
      let found = in_holds (λ h. nat_lt h.0 small) (find t.tall n) is in
      let so : found.0.0 < small = ltb-true _ _ found.2 in
      to_holds (λ h. nat_lt h.0 big) (find t.tall n) found.0 found.1 (lt-ltb found.0.0 big (omega (arith, so, less)))

  low_can : (height : ℕ) (x : Symbol) → lower t height x ≡ true → Can x
  low_can height (Terminal w k) is = token_can w k (ltb-true k t.finish is)
  low_can zero (Nonterminal n) is =
      let found = in_holds (λ h. nat_lt h.0 zero) (find t.tall n) is in
      let so : found.0.0 < zero = ltb-true _ _ found.2 in
      absurd (omega (arith, so))
  low_can (suc height) (Nonterminal n) is =
      let found = in_holds (λ h. nat_lt h.0 (suc height)) (find t.tall n) is in
      let so : found.0.0 < suc height = ltb-true _ _ found.2 in
      let fits = every_find (tall_fits t) t.tall n found.0 (each_tall t rules_do rows_safe rows_full) found.1 in
      let can : (x : Symbol) → lower t found.0.0 x ≡ true → Can x =
      λ x small. low_can height x (lower_more found.0.0 height x (omega (arith, so)) small) in
      rule_can n found.0.1 (eqb-true _ _ (first_also (nat_eq (left t found.0.1) n) _ fits))
      (all_can (lower t found.0.0) can (right t found.0.1) (second_also (nat_eq (left t found.0.1) n) _ fits))

  fit_can : (x : Symbol) → symbol_fits t x ≡ true → Can x
  fit_can (Terminal w k) is = token_can w k (ltb-true k t.finish is)
  fit_can (Nonterminal n) is =
      let found = in_holds (λ h. true) (find t.tall n) is in
      low_can (suc found.0.0) (Nonterminal n)
      (to_holds (λ h. nat_lt h.0 (suc found.0.0)) (find t.tall n) found.0 found.1
      (lt-ltb found.0.0 (suc found.0.0) (omega arith)))

  -- free tokens derive what is left of a rule, at each depth
  pub can_be_read : (p : ℕ) (before after : List Symbol) → right t p ≡ both before after → CanAll after
  can_be_read p before after shape =
      all_can (symbol_fits t) fit_can after
      (all_after (symbol_fits t) before after
      (subst (λ xs. all (symbol_fits t) xs ≡ true) shape (each_symbol t rules_do rows_safe rows_full p)))
