-- Tokens have one answer, but for the number where they end too soon.
use Rattle.std.proofs.Common.{◌≡◌, sym, ap, subst, ℕ, suc, List, length, take, inl, inr, arith}
use Rattle.std.specs.Prelude.{◌<◌, ◌≤◌, ◌⊎◌}
use Rattle.std.proofs.lemmas.Bool.{cases_order}
use Rattle.std.proofs.lemmas.List.{take-take}
use Rattle.cd_lr.specs.Grammar.{Grammar}
use Rattle.cd_lr.specs.Automaton.{Automaton}
use Rattle.cd_lr.specs.Valid.{Items, Firsts, IsComplete}
use Rattle.cd_lr.specs.Reading.{Answer, Syntax, TooDeep, Begin, BeginNone, IsAnswer, whole, wrong, unfinished, too_deep}
use Rattle.cd_lr.proofs.Exactly.{not_none, exactly}

-- the answer is a number past the last token
abbrev pub IsPast : {Token Value : Type 0} → List Token → Answer Value → Type 0
IsPast tokens (Syntax index) = length tokens ≤ index
IsPast tokens _ = ⊥

module _ {Token Value : Type 0} (g : Grammar Token Value) (most : ℕ) (tokens : List Token) where
  apart : (depth i j : ℕ) → i < j → BeginNone g most depth (take (suc i) tokens)
      → Begin g most depth (take j tokens) → ⊥
  apart depth i j less none =
      not_none g most depth (suc i) (take j tokens)
      (subst (BeginNone g most depth) (sym (take-take (suc i) j tokens (omega (arith, less)))) none)

  -- where the tokens that begin a whole come to their end
  same_place : (i j : ℕ) → Begin g most most (take i tokens) → BeginNone g most most (take (suc i) tokens)
      → Begin g most most (take j tokens) → BeginNone g most most (take (suc j) tokens) → i ≡ j
  same_place i j begins none begins' none' = by (cases_order i j)
    where
      by : (i ≡ j) ⊎ ((i < j) ⊎ (j < i)) → i ≡ j
      by (inl same) = same
      by (inr (inl less)) = absurd (apart most i j less none begins')
      by (inr (inr less)) = absurd (apart most j i less none' begins)

  -- one of them is refused at every depth, and the other one at this depth alone
  not_both : (i j : ℕ) → Begin g most most (take i tokens)
      → ((depth : ℕ) → BeginNone g most depth (take (suc i) tokens))
      → Begin g most most (take j tokens) → (depth : ℕ) × Begin g most depth (take (suc j) tokens)
      → BeginNone g most most (take (suc j) tokens) → ⊥
  not_both i j begins none begins' (depth, deeper) none' =
      let same = same_place i j begins (none most) begins' none' in
      apart depth i (suc j) (omega (arith, same)) (none depth) deeper

module _ {Token Value : Type 0} (g : Grammar Token Value) (m : Automaton) (Sure : Items) (First : Firsts)
    (full : IsComplete g m Sure First) (most : ℕ) where
  pub one_answer : (tokens : List Token) (a b : Answer Value) → IsAnswer g most tokens a → IsAnswer g most tokens b
      → (a ≡ b) ⊎ (IsPast tokens a × IsPast tokens b)
  one_answer tokens _ b (whole v is) so = inl (sym (exactly g m Sure First full most tokens v b is so))
  one_answer tokens a _ is (whole v so) = inl (exactly g m Sure First full most tokens v a so is)
  one_answer tokens _ _ (wrong i small begins none) (wrong j small' begins' none') =
      inl (ap Syntax (same_place g most tokens i j begins (none most) begins' (none' most)))
  one_answer tokens _ _ (wrong i small begins none) (unfinished j past begins' none') =
      absurd (not_none g most most (suc i) tokens (none most) begins')
  one_answer tokens _ _ (wrong i small begins none) (too_deep j small' begins' deeper none') =
      absurd (not_both g most tokens i j begins none begins' deeper none')
  one_answer tokens _ _ (unfinished i past begins none) (wrong j small begins' none') =
      absurd (not_none g most most (suc j) tokens (none' most) begins)
  one_answer tokens _ _ (unfinished i past begins none) (unfinished j past' begins' none') = inr (past, past')
  one_answer tokens _ _ (unfinished i past begins none) (too_deep j small begins' deeper none') =
      absurd (not_none g most most (suc j) tokens none' begins)
  one_answer tokens _ _ (too_deep i small begins deeper none) (wrong j small' begins' none') =
      absurd (not_both g most tokens j i begins' none' begins deeper none)
  one_answer tokens _ _ (too_deep i small begins deeper none) (unfinished j past begins' none') =
      absurd (not_none g most most (suc i) tokens none begins')
  one_answer tokens _ _ (too_deep i small begins deeper none) (too_deep j small' begins' deeper' none') =
      inl (ap TooDeep (same_place g most tokens i j begins none begins' none'))
