-- Where tokens stop being of a form.
use Rattle.std.specs.Prelude.{ℕ, zero, suc, ◌<◌, List, [], ◌∷◌, ◌++◌, length, take}
use Rattle.cd_syntax.specs.declared.tokens.Token.{Token}

-- A form: which tokens write something of it, at most so deep; and with which tokens something of
-- it begins, where these are at most so deep, and those to come may be deeper
pub record Form : Type 1 where
  pub Writes : (depth : ℕ) → List Token → Type 0
  pub Begins : (depth : ℕ) → List Token → Type 0

-- the tokens write nothing of the form, however deep
abbrev pub WriteNone : Form → List Token → Type 0
WriteNone form tokens = (depth : ℕ) → form.Writes depth tokens → ⊥

-- something of the form, at most so deep, begins with the tokens, and nothing does
abbrev pub BeginSome : Form → (depth : ℕ) → List Token → Type 0
BeginSome form depth tokens = (more : List Token) × form.Writes depth (tokens ++ more)

abbrev pub BeginNone : Form → (depth : ℕ) → List Token → Type 0
BeginNone form depth tokens = (more : List Token) → form.Writes depth (tokens ++ more) → ⊥

-- the form where the tokens to come are no deeper
abbrev pub form_of : ((depth : ℕ) → List Token → Type 0) → Form
form_of Writes = record {
  Writes = Writes;
  Begins = λ depth tokens. (more : List Token) × Writes depth (tokens ++ more);
}

-- What is so of each form: what begins with tokens begins with each part of them from the start;
-- what is written begins so; and what begins is written by more tokens, at some depth
pub record IsForm (form : Form) : Type 0 where
  pub shorter : (depth : ℕ) (tokens more : List Token) → form.Begins depth (tokens ++ more)
      → form.Begins depth tokens
  pub begun : (depth : ℕ) (tokens : List Token) → form.Writes depth tokens
      → form.Begins depth tokens
  pub goes_on : (depth : ℕ) (tokens : List Token) → form.Begins depth tokens
      → (deep : ℕ) × BeginSome form deep tokens

-- the byte at which the token with this number stands, and the end after the last one
abbrev pub place_of : List Token → (end : ℕ) → (index : ℕ) → ℕ
place_of [] end index = end
place_of (one ∷ tokens) end zero = one.span.from
place_of (one ∷ tokens) end (suc index) = place_of tokens end index

-- the first token that nothing of the form has there: with those before it something begins, and
-- with it nothing does, however deep
pub record IsWrong (form : Form) (most : ℕ) (tokens : List Token) (index : ℕ) : Type 0 where
  pub within : index < length tokens
  pub before : form.Begins most (take index tokens)
  pub wrong : (depth : ℕ) → BeginNone form depth (take (suc index) tokens)

-- something of the form begins with the tokens, and they write nothing of it
pub record IsUnfinished (form : Form) (most : ℕ) (tokens : List Token) : Type 0 where
  pub begun : form.Begins most tokens
  pub unfinished : WriteNone form tokens

-- the first token that is too deep: with those before it something begins, and with it something
-- does that has it deeper, but nothing that has it no deeper
pub record IsTooDeep (form : Form) (most : ℕ) (tokens : List Token) (index : ℕ) : Type 0 where
  pub within : index < length tokens
  pub before : form.Begins most (take index tokens)
  pub none : form.Begins most (take (suc index) tokens) → ⊥
  pub depth : ℕ
  pub deeper : BeginSome form depth (take (suc index) tokens)

-- the place of a fault of syntax, and that of a form too deep
pub data IsSyntaxFault (form : Form) (most : ℕ) (tokens : List Token) (end : ℕ) : (place : ℕ)
    → Type 0 where
  at_token : (index : ℕ) → IsWrong form most tokens index
      → IsSyntaxFault form most tokens end (place_of tokens end index)
  at_end : IsUnfinished form most tokens → IsSyntaxFault form most tokens end end

pub data IsDepthFault (form : Form) (most : ℕ) (tokens : List Token) (end : ℕ) : (place : ℕ)
    → Type 0 where
  at_depth : (index : ℕ) → IsTooDeep form most tokens index
      → IsDepthFault form most tokens end (place_of tokens end index)
