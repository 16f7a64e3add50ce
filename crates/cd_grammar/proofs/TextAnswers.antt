-- What is answered of entries as what is said of the tokens of a text, for each form of texts.
use Rattle.std.proofs.Common.{◌≡◌, sym, ap, subst, ℕ, zero, suc, List, [], ◌∷◌, ◌++◌, map, take, length, refl, arith, true, false, Bool, ltb-true, ltb-false}
use Rattle.std.specs.Prelude.{◌≤◌, nat_lt}
use Rattle.std.proofs.lemmas.List.{length-map}
use Rattle.cd_syntax.specs.declared.tokens.Token.{Token}
use Rattle.cd_syntax.specs.SyntaxFaults.{IsForm, place_of, IsSyntaxFault, at_token, at_end, IsDepthFault, at_depth}
use Rattle.cd_lr.specs.Grammar.{Whole}
use Rattle.cd_lr.specs.Reading.{Answer, Read as Made, Syntax, TooDeep, IsAnswer, whole, wrong, unfinished, too_deep}
use Rattle.cd_grammar.specs.declared.goal.Goal.{Goal}
use Rattle.cd_grammar.specs.Parts.{Part}
use Rattle.cd_grammar.specs.Language.{Entry, To, Read, Later, Placed, cduce_grammar}
use Rattle.cd_grammar.proofs.Later.{shorter, begun, goes_on}
use Rattle.cd_grammar.proofs.TokenFaults.{form, entries, begins, taken, is_wrong, is_unfinished}

past_end : (tokens : List Token) (end index : ℕ) → length tokens ≤ index → place_of tokens end index ≡ end
past_end [] end index past = refl
past_end (one ∷ tokens) end zero past = absurd (omega (arith, past))
past_end (one ∷ tokens) end (suc index) past = past_end tokens end index (omega (arith, past))

-- where each part that is written as this goal is one that `of` gives
module _ {Written : Type 0} (of : Written → Part) (goal : Goal)
    (written : (depth : ℕ) (rest : List Entry) (part : Placed) → Whole cduce_grammar depth (To goal ∷ rest) part
    → (is : Written) × (part.1 ≡ of is)) where
  as_written : (depth : ℕ) (tokens : List Token) (part : Placed)
      → Whole cduce_grammar depth (To goal ∷ map Read tokens) part → (form of goal).Writes depth tokens
  as_written depth tokens part is =
      let found = written depth (map Read tokens) part is in
      let writes = subst (λ one. Whole cduce_grammar depth (To goal ∷ map Read tokens) (part.0, one)) found.1 is in
      (found.0, (part.0, writes))

  -- the goal is a form
  pub form_law : IsForm (form of goal)
  form_law = record {
    shorter = λ depth tokens later. shorter goal depth tokens later;
    begun = λ depth tokens writes. begun goal depth tokens (writes.1.0, of writes.0) writes.1.1;
    goes_on = λ depth tokens begins.
        let on = goes_on goal depth tokens begins in
        (on.0, (on.1, as_written on.0 (tokens ++ on.1) on.2 on.3));
  }

  module _ (most : ℕ) (tokens : List Token) where
    -- tokens that are read are written
    pub is_written : (part : Placed) → IsAnswer cduce_grammar most (entries of goal most tokens) (Made part)
        → (form of goal).Writes most tokens
    is_written part (whole _ is) = as_written most tokens part is

    -- the place of a fault of syntax: that of a token, or the end
    pub syntax_at : (end index : ℕ) → IsAnswer cduce_grammar most (entries of goal most tokens) (Syntax (suc index))
        → IsSyntaxFault (form of goal) most tokens end (place_of tokens end index)
    syntax_at end index is = by (nat_lt index (length tokens)) refl
      where
        by : (small : Bool) → nat_lt index (length tokens) ≡ small
            → IsSyntaxFault (form of goal) most tokens end (place_of tokens end index)
        by true less = at_token index (is_wrong of goal most tokens index is (ltb-true index (length tokens) less))
        by false more =
            let past = ltb-false index (length tokens) more in
            subst (IsSyntaxFault (form of goal) most tokens end) (sym (past_end tokens end index past))
            (at_end (is_unfinished of goal most tokens index is past))

    -- the place of a fault of depth: that of a token
    deep_of : (end index : ℕ) (answer : Answer Placed)
        → IsAnswer cduce_grammar most (entries of goal most tokens) answer → answer ≡ TooDeep (suc index)
        → IsDepthFault (form of goal) most tokens end (place_of tokens end index)
    deep_of end index _ (whole part is) same = absurd cc
    deep_of end index _ (wrong at small before never) same = absurd cc
    deep_of end index _ (unfinished at past before never) same = absurd cc
    deep_of end index _ (too_deep at small before deeper never) same =
        let number : at ≡ suc index = cc in
        let many = length-map tokens Read in
        let some = taken of goal most tokens (suc at) (suc index) (ap suc number) in
        let on =
        goes_on goal deeper.0 (take (suc index) tokens)
        (begins of goal deeper.0 tokens (take (suc index) tokens) (take (suc at) (entries of goal most tokens)) some
        deeper.1) in
        at_depth index record {
          within = omega (arith, small, number, many);
          before = begins of goal most tokens (take index tokens) (take at (entries of goal most tokens))
              (taken of goal most tokens at index number) before;
          none = λ begun. never (map Later begun.0) begun.1
              (subst (λ all. Whole cduce_grammar most (all ++ map Later begun.0) begun.1) (sym some) begun.2);
          depth = on.0;
          deeper = (on.1, as_written on.0 (take (suc index) tokens ++ on.1) on.2 on.3);
        }

    pub deep_at : (end index : ℕ) → IsAnswer cduce_grammar most (entries of goal most tokens) (TooDeep (suc index))
        → IsDepthFault (form of goal) most tokens end (place_of tokens end index)
    deep_at end index is = deep_of end index (TooDeep (suc index)) is refl
