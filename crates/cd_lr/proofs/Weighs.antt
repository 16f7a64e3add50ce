-- The weights of tables that fit: what is needed so that each step makes the measure smaller.
use Rattle.std.proofs.Common.{◌≡◌, ap, ℕ, zero, suc, List, [], ◌∷◌, Bool, true, drop, arith, ltb-true}
use Rattle.std.specs.Prelude.{◌<◌, ◌≤◌, nat_eq}
use Rattle.cd_lr.specs.Grammar.{Symbol, Terminal, Nonterminal}
use Rattle.cd_lr.specs.Valid.{Leads}
use Rattle.cd_lr.specs.Weights.{sums}
use Rattle.cd_lr.specs.Tables.{Rule, rule, Tables, also, not, all, every, head_is, kernel_of, left_of, right_of, row_at, left, right, machine}
use Rattle.cd_lr.specs.Validator.{core, row_safe, row_full, rules_fit, came, nonempty, weights_fit, weight_of, head_weight, passed_weight, kernel_weight, state_weight, rule_falls}
use Rattle.cd_lr.specs.TableGrammar.{Core}
use Rattle.cd_lr.proofs.Bools.{first_also, second_also, every_find, given_find, has_head}
use Rattle.cd_lr.proofs.Safe.{led}

module _ (t : Tables) (rules_do : rules_fit t ≡ true) (rows_safe : every (row_safe t) t.states ≡ true)
    (rows_full : every (row_full t) t.states ≡ true) (weights_do : weights_fit t ≡ true) where
  -- a state weighs what the symbol that leads to it does
  pub weighs : (s : ℕ) (x : Symbol) (next : ℕ) → Leads (machine t) (Core t) s x next
      → state_weight t next ≡ weight_of t x
  weighs s x next leads =
      let checked =
      second_also (not (nat_eq next zero)) (also (nonempty t (kernel_of (row_at t next))) (all over
      (kernel_of (row_at t next)))) (led t rules_do rows_safe rows_full s x next leads) in
      by (kernel_of (row_at t next)) (first_also (nonempty t (kernel_of (row_at t next))) _ checked)
      (second_also (nonempty t (kernel_of (row_at t next))) _ checked)
    where
      over : (ℕ × ℕ × ℕ) → Bool
      over e = came t (row_at t s) x e.0 e.1

      one : (p d : ℕ) → came t (row_at t s) x p d ≡ true → passed_weight t p d ≡ weight_of t x
      one p zero is = absurd cc
      one p (suc d) is =
          let before = first_also (head_is x (drop d (right t p))) (core t (row_at t s) p d) is in
          ap (head_weight t) (has_head x (drop d (right t p)) before).1

      by : (es : List (ℕ × ℕ × ℕ)) → nonempty t es ≡ true → all over es ≡ true → kernel_weight t es ≡ weight_of t x
      by [] is so = absurd cc
      by (e ∷ es) is so = one e.0 e.1 (first_also (over e) _ so)

  -- a terminal weighs at most `top`
  pub light : (w k : ℕ) → weight_of t (Terminal w k) ≤ t.top
  light w k = omega arith

  -- a left side weighs less than its right side
  pub falls : (q : ℕ) → weight_of t (Nonterminal (left t q)) < sums (weight_of t) (right t q)
  falls q =
      given_find (λ r. weight_of t (Nonterminal (left_of r)) < sums (weight_of t) (right_of r)) t.rules q start_rule
      (ltb-true _ _ (first_also (rule_falls t zero start_rule) (every (rule_falls t) t.rules) weights_do))
      (λ r is. ltb-true _ _ (every_find (rule_falls t) t.rules q r each is))
    where
      start_rule : Rule
      start_rule = rule t.whole (Nonterminal t.start ∷ [])

      each : every (rule_falls t) t.rules ≡ true
      each = second_also (rule_falls t zero start_rule) (every (rule_falls t) t.rules) weights_do
