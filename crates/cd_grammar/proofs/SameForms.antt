-- Forms that write the same tokens, and begin with the same, have the same faults.
use Rattle.std.specs.Prelude.{ℕ, List, take, suc}
use Rattle.cd_syntax.specs.declared.tokens.Token.{Token}
use Rattle.cd_syntax.specs.SyntaxFaults.{Form, IsForm, IsWrong, IsUnfinished, IsTooDeep, IsSyntaxFault, at_token, at_end, IsDepthFault, at_depth}

-- whatever one of two forms writes, or begins with, the other one does
pub record IsWithin (first second : Form) : Type 0 where
  pub writes : (depth : ℕ) (tokens : List Token) → first.Writes depth tokens → second.Writes depth tokens
  pub begins : (depth : ℕ) (tokens : List Token) → first.Begins depth tokens → second.Begins depth tokens

module _ (first second : Form) (there : IsWithin first second) (back : IsWithin second first) where
  pub same_form : IsForm first → IsForm second
  same_form is = record {
    shorter = λ depth tokens more begins.
        there.begins depth tokens (is.shorter depth tokens more (back.begins depth _ begins));
    begun = λ depth tokens writes. there.begins depth tokens (is.begun depth tokens (back.writes depth tokens writes));
    goes_on = λ depth tokens begins.
        let on = is.goes_on depth tokens (back.begins depth tokens begins) in
        (on.0, (on.1.0, there.writes on.0 _ on.1.1));
  }

  module _ (most : ℕ) (tokens : List Token) where
    pub same_wrong : (index : ℕ) → IsWrong first most tokens index → IsWrong second most tokens index
    same_wrong index is = record {
      within = is.within;
      before = there.begins most (take index tokens) is.before;
      wrong = λ depth more writes. is.wrong depth more (back.writes depth _ writes);
    }

    pub same_unfinished : IsUnfinished first most tokens → IsUnfinished second most tokens
    same_unfinished is = record {
      begun = there.begins most tokens is.begun;
      unfinished = λ depth writes. is.unfinished depth (back.writes depth tokens writes);
    }

    same_too_deep : (index : ℕ) → IsTooDeep first most tokens index → IsTooDeep second most tokens index
    same_too_deep index is = record {
      within = is.within;
      before = there.begins most (take index tokens) is.before;
      none = λ begins. is.none (back.begins most (take (suc index) tokens) begins);
      depth = is.depth;
      deeper = (is.deeper.0, there.writes is.depth _ is.deeper.1);
    }

    pub same_syntax_fault : (end place : ℕ) → IsSyntaxFault first most tokens end place
        → IsSyntaxFault second most tokens end place
    same_syntax_fault end _ (at_token index is) = at_token index (same_wrong index is)
    same_syntax_fault end _ (at_end is) = at_end (same_unfinished is)

    pub same_depth_fault : (end place : ℕ) → IsDepthFault first most tokens end place
        → IsDepthFault second most tokens end place
    same_depth_fault end _ (at_depth index is) = at_depth index (same_too_deep index is)
