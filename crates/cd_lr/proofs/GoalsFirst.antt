-- What the start symbol derives is a goal, and then tokens that are none.
use Rattle.std.proofs.Common.{◌≡◌, ◌∙◌, sym, ap, subst, refl, ℕ, zero, suc, List, [], ◌∷◌}
use Rattle.std.proofs.Common.{Bool, true, false, eqb-true, eq-eqb, ltb-true, ltb-false}
use Rattle.std.specs.Prelude.{◌≤◌, ◌++◌, nat_eq, nat_lt}
use Rattle.cd_lr.specs.Grammar.{Symbol, Terminal, Nonterminal, Grammar, Derives, one, made, Row, nothing, next}
use Rattle.cd_lr.specs.Grammar.{within, Whole}
use Rattle.cd_lr.specs.Tables.{Tables, Rule, rule, choose, also, not, all, every, left_of, right_of}
use Rattle.cd_lr.specs.Tables.{left, right}
use Rattle.cd_lr.specs.TableGrammar.{grammar}
use Rattle.cd_lr.specs.Goals.{plain, goal_and_plain, goal_fits, goals_fit, ArePlain}
use Rattle.cd_lr.proofs.Bools.{first_also, second_also, not_true, in_not, every_find, given_find}

module _ (t : Tables) (first_goal text : ℕ) (fits : goals_fit t first_goal text ≡ true) where
  starts : t.start ≡ text
  starts = eqb-true _ _ (first_also (nat_eq t.start text) _ fits)

  apart : text ≡ t.whole → ⊥
  apart is =
      let other = first_also (not (nat_eq text t.whole)) _ (second_also (nat_eq t.start text) _ fits) in
      not_true (nat_eq text t.whole) other (eq-eqb text t.whole is)

  each_fits : every (goal_fits t first_goal text) t.rules ≡ true
  each_fits = second_also (not (nat_eq text t.whole)) _ (second_also (nat_eq t.start text) _ fits)

  abbrev is_plain : Symbol → Bool
  is_plain x = plain t first_goal text x

  plain_left : (n : ℕ) → is_plain (Nonterminal n) ≡ true → (n ≡ text → ⊥) × (n ≡ t.whole → ⊥)
  plain_left n is = (
    λ same. not_true (nat_eq n text) (first_also (not (nat_eq n text)) _ is) (eq-eqb n text same),
    λ same. not_true (nat_eq n t.whole) (second_also (not (nat_eq n text)) _ is) (eq-eqb n t.whole same),
  )

  -- what the rules of a text look like, and what others do
  abbrev Looks : (l : ℕ) → List Symbol → Type 0
  Looks l right =
      (l ≡ text → goal_and_plain t first_goal text right ≡ true)
      × ((l ≡ text → ⊥) → all is_plain right ≡ true)

  rule_looks : (p : ℕ) (r : Rule) → goal_fits t first_goal text p r ≡ true → (left_of r ≡ t.whole → ⊥)
      → Looks (left_of r) (right_of r)
  rule_looks zero (rule l right) is other = absurd (other (eqb-true _ _ (first_also (nat_eq l t.whole) _ is)))
  rule_looks (suc p) (rule l right) is other = by (nat_eq l text) refl is
    where
      by : (same : Bool) → nat_eq l text ≡ same
          → choose same (goal_and_plain t first_goal text right)
          (also (not (nat_eq l t.whole)) (all is_plain right)) ≡ true → Looks l right
      by true same is = (λ so. is, λ so. absurd (so (eqb-true l text same)))
      by false same is = (
        λ so. let no : true ≡ false = sym (eq-eqb l text so) ∙ same in absurd cc,
        λ so. second_also (not (nat_eq l t.whole)) _ is,
      )

  looks : (p : ℕ) → (left t p ≡ t.whole → ⊥) → Looks (left t p) (right t p)
  looks p =
      given_find (λ r. (left_of r ≡ t.whole → ⊥) → Looks (left_of r) (right_of r)) t.rules p
      (rule t.whole (Nonterminal t.start ∷ [])) (λ other. absurd (other refl))
      (λ r is. rule_looks p r (every_find (goal_fits t first_goal text) t.rules p r each_fits is))

  module _ {Token Value : Type 0} (kind : Token → ℕ) (value : Token → Value) (free : Token → Bool)
      (build : ℕ → List Value → Value) where
    abbrev g : Grammar Token Value
    g = grammar t kind value free build

    abbrev AllPlain : List Token → Type 0
    AllPlain tokens = ArePlain kind first_goal tokens

    both_plain : (a b : List Token) → AllPlain a → AllPlain b → AllPlain (a ++ b)
    both_plain [] b first second = second
    both_plain (token ∷ a) b first second = (first.0, both_plain a b first.1 second)

    mutual
      plain_tokens : (depth : ℕ) (x : Symbol) (tokens : List Token) (v : Value) → Derives g depth x tokens v
          → is_plain x ≡ true → AllPlain tokens
      plain_tokens _ _ _ _ (one depth opens token room) is = (ltb-true (kind token) first_goal is, tt)
      plain_tokens _ _ _ _ (made depth p tokens values row) is =
          let other = plain_left (left t p) is in
          plain_row depth (right t p) tokens values row ((looks p other.1).1 other.0)

      plain_row : (depth : ℕ) (xs : List Symbol) (tokens : List Token) (values : List Value)
          → Row g depth xs tokens values → all is_plain xs ≡ true → AllPlain tokens
      plain_row _ _ _ _ (nothing depth) is = tt
      plain_row _ _ _ _ (next depth x rest a b v vs derives row) is =
          both_plain a b (plain_tokens depth x a v derives (first_also (is_plain x) (all is_plain rest) is))
          (plain_row (within g depth x) rest b vs row (second_also (is_plain x) (all is_plain rest) is))

    -- the rule of a text that was used
    abbrev pub ByText : (depth : ℕ) → List Token → Value → Type 0
    ByText depth tokens v =
        (p : ℕ) × (left t p ≡ text) × (values : List Value) × Row g depth (right t p) tokens values
        × (v ≡ build p values)

    by_text : (depth : ℕ) (x : Symbol) (tokens : List Token) (v : Value) → Derives g depth x tokens v
        → x ≡ Nonterminal text → ByText depth tokens v
    by_text _ _ _ _ (one depth opens token room) is = absurd cc
    by_text _ _ _ _ (made depth p tokens values row) is =
        let same : left t p ≡ text = cc in
        (p, same, values, row, refl)

    pub whole_by_text : (depth : ℕ) (tokens : List Token) (v : Value) → Whole g depth tokens v → ByText depth tokens v
    whole_by_text depth tokens v derives = by_text depth (Nonterminal t.start) tokens v derives (ap Nonterminal starts)

    abbrev pub GoalFirst : List Token → Type 0
    GoalFirst tokens =
        (first : Token) × (rest : List Token) × (tokens ≡ first ∷ rest) × (first_goal ≤ kind first)
        × ArePlain kind first_goal rest

    first_token : (depth : ℕ) (x : Symbol) (tokens : List Token) (v : Value) → Derives g depth x tokens v
        → (opens k : ℕ) → x ≡ Terminal opens k → (token : Token) × (tokens ≡ token ∷ []) × (kind token ≡ k)
    first_token _ _ _ _ (one depth opens token room) w k is = let same : kind token ≡ k = cc in (token, refl, same)
    first_token _ _ _ _ (made depth p tokens values row) w k is = absurd cc

    goal_row : (depth : ℕ) (xs : List Symbol) (tokens : List Token) (values : List Value) → Row g depth xs tokens values
        → goal_and_plain t first_goal text xs ≡ true → GoalFirst tokens
    goal_row _ _ _ _ (nothing depth) is = absurd cc
    goal_row _ _ _ _ (next depth (Nonterminal n) rest a b v vs derives row) is = absurd cc
    goal_row _ _ _ _ (next depth (Terminal w k) rest a b v vs derives row) is =
        let found = first_token depth (Terminal w k) a v derives w k refl in
        let goal : first_goal ≤ k = ltb-false k first_goal (in_not _ (first_also (not (nat_lt k first_goal)) _ is)) in (
          found.0,
          b,
          ap (λ part. part ++ b) found.1,
          subst (λ n. first_goal ≤ n) (sym found.2) goal,
          plain_row (within g depth (Terminal w k)) rest b vs row (second_also (not (nat_lt k first_goal)) _ is),
        )

    pub goal_first : (depth : ℕ) (tokens : List Token) (v : Value) → Whole g depth tokens v → GoalFirst tokens
    goal_first depth tokens v derives =
        let found = whole_by_text depth tokens v derives in
        let other : left t found.0 ≡ t.whole → ⊥ = λ same. apart (sym found.1 ∙ same) in
        goal_row depth (right t found.0) tokens found.2 found.3 ((looks found.0 other).0 found.1)
