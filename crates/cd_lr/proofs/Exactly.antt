-- Tokens that write a whole have that answer alone.
use Rattle.std.proofs.Common.{◌≡◌, sym, ap, subst, ◌∙◌, ℕ, suc, List, [], ◌++◌, take, drop, append_assoc, append-nil}
use Rattle.std.proofs.lemmas.List.{take-append-drop}
use Rattle.cd_lr.specs.Grammar.{Grammar, Whole}
use Rattle.cd_lr.specs.Automaton.{Automaton}
use Rattle.cd_lr.specs.Valid.{Items, Firsts, IsComplete}
use Rattle.cd_lr.specs.Reading.{Answer, Read, Begin, BeginNone, IsAnswer, whole, wrong, unfinished, too_deep}
use Rattle.cd_lr.proofs.Unique.{one_value}

module _ {Token Value : Type 0} (g : Grammar Token Value) (most : ℕ) where
  -- where no whole begins with a prefix of the tokens, none begins with the tokens
  pub not_none : (depth n : ℕ) (tokens : List Token) → BeginNone g most depth (take n tokens)
      → Begin g most depth tokens → ⊥
  not_none depth n tokens none (more, v, free, is) =
      none (drop n tokens ++ more) v
      (subst (λ all. Whole g depth all v)
      (ap (λ all. all ++ more) (sym (take-append-drop n tokens))
      ∙ append_assoc (take n tokens) (drop n tokens) more) is)

  whole_begins : (depth : ℕ) (tokens : List Token) (v : Value) → Whole g depth tokens v → Begin g most depth tokens
  whole_begins depth tokens v is = ([], v, tt, subst (λ all. Whole g depth all v) (sym (append-nil tokens)) is)

module _ {Token Value : Type 0} (g : Grammar Token Value) (m : Automaton) (Sure : Items) (First : Firsts)
    (full : IsComplete g m Sure First) (most : ℕ) where
  pub exactly : (tokens : List Token) (v : Value) (answer : Answer Value) → Whole g most tokens v
      → IsAnswer g most tokens answer → answer ≡ Read v
  exactly tokens v _ is (whole w so) = ap Read (one_value g m Sure First full most tokens w v so is)
  exactly tokens v _ is (wrong index small begins none) =
      absurd (not_none g most most (suc index) tokens (none most) (whole_begins g most most tokens v is))
  exactly tokens v _ is (unfinished index past begins none) = absurd (none most v is)
  exactly tokens v _ is (too_deep index small begins deeper none) =
      absurd (not_none g most most (suc index) tokens none (whole_begins g most most tokens v is))
