-- Tokens have one value at most.
use Rattle.std.proofs.Common.{◌≡◌, ◌+◌, ℕ, List, sym, subst, ◌∙◌, arith}
use Rattle.cd_lr.specs.Grammar.{Nonterminal, Grammar, Whole}
use Rattle.cd_lr.specs.Automaton.{Automaton, Config, On, Done, step, begin, Reaches, here, on}
use Rattle.cd_lr.specs.Valid.{Items, Firsts, IsComplete}
use Rattle.cd_lr.proofs.Depths.{deeper}
use Rattle.cd_lr.proofs.Complete.{complete}

module _ {Token Value : Type 0} (g : Grammar Token Value) (m : Automaton) (Sure : Items) (First : Firsts)
    (full : IsComplete g m Sure First) where
  one_end : (most : ℕ) (b c d : Config Token Value) (v w : Value) → Reaches g m most b c → Reaches g m most b d
      → step g m most c ≡ Done v → step g m most d ≡ Done w → v ≡ w
  one_end most _ _ _ v w (here b) (here b') is so = let same : Done v ≡ Done w = sym is ∙ so in cc
  one_end most _ _ d v w (here b) (on b' e d' first more) is so =
      let same : Done v ≡ On e = sym is ∙ first in absurd cc
  one_end most _ c _ v w (on b e c' first more) (here b') is so =
      let same : On e ≡ Done w = sym first ∙ so in absurd cc
  one_end most _ c d v w (on b e c' first more) (on b' e' d' second more') is so =
      let both : On e ≡ On e' = sym first ∙ second in
      let same : e ≡ e' = cc in
      one_end most e c d v w more (subst (λ x. Reaches g m most x d) (sym same) more') is so

  pub one_value : (most : ℕ) (tokens : List Token) (v w : Value) → Whole g most tokens v → Whole g most tokens w → v ≡ w
  one_value most tokens v w is so =
      let first = complete g m Sure First full most tokens v is in
      let second = complete g m Sure First full most tokens w so in
      one_end most (begin g m most tokens) first.end second.end v w first.comes second.comes first.ends second.ends

  pub one_value_at_all : (a b : ℕ) (tokens : List Token) (v w : Value) → Whole g a tokens v → Whole g b tokens w → v ≡ w
  one_value_at_all a b tokens v w is so =
      one_value (a + b) tokens v w (deeper g a (a + b) (Nonterminal g.start) tokens v (omega arith) is)
      (deeper g b (a + b) (Nonterminal g.start) tokens w (omega arith) so)
