-- The rules of the grammar: what their parts are, and which rules begin a text.
use Rattle.std.proofs.Common.{◌≡◌, ◌∙◌, sym, subst, refl, ℕ, zero, suc, Bool, true, List, [], ◌∷◌, map, arith, ltb-true, inl, inr}
use Rattle.std.specs.Prelude.{◌⊎◌, ◌<◌, nat_eq, nat_lt}
use Rattle.cd_lr.specs.Grammar.{Nonterminal}
use Rattle.cd_lr.specs.Tables.{Rule, rule, every, rule_at, either, not, left, left_of}
use Rattle.cd_lr.proofs.Bools.{every_find, given_find}
use Rattle.cd_grammar.specs.Parts.{Part}
use Rattle.cd_grammar.specs.Language.{Placed}
use Rattle.cd_grammar.specs.Tables.{tables}

abbrev pub parts_of : List Placed → List Part
parts_of values = map (λ part. part.1) values

-- a test of all rules holds of the rule of a number, or that is the rule of the whole
pub of_rule : (test : ℕ → Rule → Bool) → every test tables.rules ≡ true → (p : ℕ)
    → (test p (rule_at tables p) ≡ true) ⊎ (left tables p ≡ tables.whole)
of_rule test holds p =
    given_find (λ r. (test p r ≡ true) ⊎ (left_of r ≡ tables.whole)) tables.rules p
    (rule tables.whole (Nonterminal tables.start ∷ [])) (inr refl)
    (λ r is. inl (every_find test tables.rules p r holds is))

-- the rules of a start
pub data IsStart : ℕ → Type 0 where
  a_type : IsStart 1
  empty_file : IsStart 2
  a_file : IsStart 3
  empty_program : IsStart 4
  a_program : IsStart 5

pub is_start : (p : ℕ) → left tables p ≡ tables.start → IsStart p
is_start p same = by p same (below (of_rule (λ n r. either (not (nat_eq (left_of r) 1)) (nat_lt n 6)) refl p))
  where
    below : (either (not (nat_eq (left tables p) 1)) (nat_lt p 6) ≡ true) ⊎ (left tables p ≡ 0) → p < 6
    below (inl so) = ltb-true p 6 (subst (λ n. either (not (nat_eq n 1)) (nat_lt p 6) ≡ true) same so)
    below (inr whole) = let never : suc zero ≡ zero = sym same ∙ whole in absurd cc

    by : (n : ℕ) → left tables n ≡ tables.start → n < 6 → IsStart n
    by zero same below = let never : zero ≡ suc zero = same in absurd cc
    by (suc zero) same below = a_type
    by (suc (suc zero)) same below = empty_file
    by (suc (suc (suc zero))) same below = a_file
    by (suc (suc (suc (suc zero)))) same below = empty_program
    by (suc (suc (suc (suc (suc zero))))) same below = a_program
    by (suc (suc (suc (suc (suc (suc n)))))) same below = absurd (omega (arith, below))
