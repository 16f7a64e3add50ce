-- What is to be answered of tokens: their value, or the token at which they fail.
use Rattle.std.specs.Prelude.{◌<◌, ◌≤◌, ℕ, suc, List, ◌++◌, length, take}
use Rattle.cd_lr.specs.Grammar.{Grammar, Whole, AreFree}

-- The value of the tokens; or the number of the first token that cannot come, which is any number
-- past the last one where the tokens end too soon; or the number of a token that is too deep.
pub data Answer (Value : Type 0) : Type 0 where
  Read : Value → Answer Value
  Syntax : ℕ → Answer Value
  TooDeep : ℕ → Answer Value

module _ {Token Value : Type 0} (g : Grammar Token Value) (most : ℕ) where
  -- The tokens are a prefix: the start symbol derives them with more tokens, at this depth. Those
  -- to come are free, so they may stand at any depth.
  abbrev pub Begin : (depth : ℕ) → List Token → Type 0
  Begin depth tokens =
      (more : List Token) × (v : Value) × AreFree g more × Whole g depth (tokens ++ more) v

  -- the tokens are no prefix of any that the start symbol derives at this depth
  abbrev pub BeginNone : (depth : ℕ) → List Token → Type 0
  BeginNone depth tokens = (more : List Token) (v : Value) → Whole g depth (tokens ++ more) v → ⊥

  -- an answer is right; `most` is the depth that is allowed
  pub data IsAnswer (tokens : List Token) : Answer Value → Type 0 where
    -- the start symbol derives the tokens
    whole : (v : Value) → Whole g most tokens v → IsAnswer tokens (Read v)
    -- the tokens before this one are a prefix; with it they are none, at any depth
    wrong : (index : ℕ) → index < length tokens → Begin most (take index tokens)
        → ((depth : ℕ) → BeginNone depth (take (suc index) tokens))
        → IsAnswer tokens (Syntax index)
    -- the tokens are a prefix, and the start symbol does not derive them, at any depth
    unfinished : (index : ℕ) → length tokens ≤ index → Begin most tokens
        → ((depth : ℕ) (v : Value) → Whole g depth tokens v → ⊥)
        → IsAnswer tokens (Syntax index)
    -- the tokens before this one are a prefix; with it they are one, but at greater depths alone
    too_deep : (index : ℕ) → index < length tokens → Begin most (take index tokens)
        → (depth : ℕ) × Begin depth (take (suc index) tokens)
        → BeginNone most (take (suc index) tokens)
        → IsAnswer tokens (TooDeep index)
