-- Tokens are of a form, or have one place of a fault of syntax, or one that is too deep.
use Rattle.std.proofs.Common.{◌≡◌, ℕ, zero, suc, ◌<◌, ◌≤◌, List, [], ◌∷◌, ◌++◌, take, drop, inl, inr, ◌⊎◌, refl, sym, ap, subst, ◌∙◌, append_assoc, arith}
use Rattle.std.proofs.lemmas.Bool.{cases_order}
use Rattle.std.proofs.lemmas.List.{take-append-drop}
use Rattle.cd_syntax.specs.declared.tokens.Token.{Token}
use Rattle.cd_syntax.specs.SyntaxFaults.{Form, IsForm, BeginNone, place_of, IsWrong, IsTooDeep, IsSyntaxFault, at_token, at_end, IsDepthFault, at_depth}

-- a shorter prefix is a prefix of a longer one
front : (j i : ℕ) (tokens : List Token) → j ≤ i → (rest : List Token) × (take i tokens ≡ take j tokens ++ rest)
front zero i tokens within = (take i tokens, refl)
front (suc j) zero tokens within = absurd (omega arith)
front (suc j) (suc i) [] within = ([], refl)
front (suc j) (suc i) (one ∷ tokens) within =
    let on = front j i tokens (omega arith) in
    (on.0, ap (λ rest. one ∷ rest) on.1)

module _ (form : Form) (law : IsForm form) (most : ℕ) (tokens : List Token) (end : ℕ) where
  -- what begins with a prefix begins with each shorter one
  shorter : (depth i j : ℕ) → j ≤ i → form.Begins depth (take i tokens) → form.Begins depth (take j tokens)
  shorter depth i j within begins =
      let here = front j i tokens within in
      law.shorter depth (take j tokens) here.0 (subst (form.Begins depth) here.1 begins)

  of_all : (depth j : ℕ) → form.Begins depth tokens → form.Begins depth (take j tokens)
  of_all depth j begins =
      law.shorter depth (take j tokens) (drop j tokens) (subst (form.Begins depth) (sym (take-append-drop j tokens)) begins)

  -- what begins is not nothing, however deep
  no_some : (depth : ℕ) (read : List Token) → form.Begins depth read → ((deep : ℕ) → BeginNone form deep read) → ⊥
  no_some depth read begins none =
      let on = law.goes_on depth read begins in
      none on.0 on.1.0 on.1.1

  wrong_one : (i j : ℕ) → IsWrong form most tokens i → IsWrong form most tokens j → i ≡ j
  wrong_one i j first second = by (cases_order i j)
    where
      by : (i ≡ j) ⊎ ((i < j) ⊎ (j < i)) → i ≡ j
      by (inl same) = same
      by (inr (inl below)) = absurd (no_some most (take (suc i) tokens) (shorter most j (suc i) (omega arith) second.before) first.wrong)
      by (inr (inr above)) = absurd (no_some most (take (suc j) tokens) (shorter most i (suc j) (omega arith) first.before) second.wrong)

  deep_one : (i j : ℕ) → IsTooDeep form most tokens i → IsTooDeep form most tokens j → i ≡ j
  deep_one i j first second = by (cases_order i j)
    where
      by : (i ≡ j) ⊎ ((i < j) ⊎ (j < i)) → i ≡ j
      by (inl same) = same
      by (inr (inl below)) = absurd (first.none (shorter most j (suc i) (omega arith) second.before))
      by (inr (inr above)) = absurd (second.none (shorter most i (suc j) (omega arith) first.before))

  -- nothing begins with a wrong token, not even deeper
  not_deeper : (i j : ℕ) → i ≤ j → IsWrong form most tokens i → IsTooDeep form most tokens j → ⊥
  not_deeper i j within wrong deep =
      let here = front (suc i) (suc j) tokens (omega (arith, within)) in
      wrong.wrong deep.depth (here.0 ++ deep.deeper.0)
      (subst (form.Writes deep.depth) (ap (λ read. read ++ deep.deeper.0) here.1 ∙ append_assoc (take (suc i) tokens) here.0 deep.deeper.0) deep.deeper.1)

  wrong_deep : (i j : ℕ) → IsWrong form most tokens i → IsTooDeep form most tokens j → ⊥
  wrong_deep i j wrong deep = by (cases_order i j)
    where
      by : (i ≡ j) ⊎ ((i < j) ⊎ (j < i)) → ⊥
      by (inl same) = not_deeper i j (omega (arith, same)) wrong deep
      by (inr (inl below)) = not_deeper i j (omega (arith, below)) wrong deep
      by (inr (inr above)) = deep.none (shorter most i (suc j) (omega arith) wrong.before)

  pub syntax_one : (p q : ℕ) → IsSyntaxFault form most tokens end p → IsSyntaxFault form most tokens end q → p ≡ q
  syntax_one _ _ (at_token i first) (at_token j second) = ap (place_of tokens end) (wrong_one i j first second)
  syntax_one _ _ (at_token i first) (at_end second) = absurd (no_some most (take (suc i) tokens) (of_all most (suc i) second.begun) first.wrong)
  syntax_one _ _ (at_end first) (at_token j second) = absurd (no_some most (take (suc j) tokens) (of_all most (suc j) first.begun) second.wrong)
  syntax_one _ _ (at_end first) (at_end second) = refl

  pub depth_one : (p q : ℕ) → IsDepthFault form most tokens end p → IsDepthFault form most tokens end q → p ≡ q
  depth_one _ _ (at_depth i first) (at_depth j second) = ap (place_of tokens end) (deep_one i j first second)

  pub not_both : (p q : ℕ) → IsSyntaxFault form most tokens end p → IsDepthFault form most tokens end q → ⊥
  not_both _ _ (at_token i wrong) (at_depth j deep) = wrong_deep i j wrong deep
  not_both _ _ (at_end unfinished) (at_depth j deep) = deep.none (of_all most (suc j) unfinished.begun)

  pub written_no_syntax : (p : ℕ) → form.Writes most tokens → IsSyntaxFault form most tokens end p → ⊥
  written_no_syntax _ written (at_token i wrong) =
      no_some most (take (suc i) tokens) (of_all most (suc i) (law.begun most tokens written)) wrong.wrong
  written_no_syntax _ written (at_end unfinished) = unfinished.unfinished most written

  pub written_no_depth : (p : ℕ) → form.Writes most tokens → IsDepthFault form most tokens end p → ⊥
  written_no_depth _ written (at_depth j deep) = deep.none (of_all most (suc j) (law.begun most tokens written))
