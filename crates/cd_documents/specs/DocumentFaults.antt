-- Where tokens stop being a document.
use Rattle.std.specs.Prelude.{◌≡◌, ℕ, true, List, take, length}
use Rattle.cd_syntax.specs.declared.tokens.Token.{Token}
use Rattle.cd_syntax.specs.SyntaxFaults.{Form, form_of, BeginSome, IsSyntaxFault, place_of}
use Rattle.cd_model.specs.Thing.{Thing}
use Rattle.cd_documents.specs.Document.{IsDocument}
use Rattle.cd_documents.specs.Terminal.{open_after, opens_at}

-- the form of documents
abbrev pub ADocument : Form
ADocument = form_of (λ depth tokens. (value : Thing) × IsDocument depth tokens value)

-- An opening bracket at which as many are open as may be, whether or not it could stand there: the
-- tokens before it begin a document
pub record IsOneTooMany (most : ℕ) (tokens : List Token) (index : ℕ) : Type 0 where
  pub opens : opens_at tokens index ≡ true
  pub before : BeginSome ADocument most (take index tokens)
  pub full : length (open_after (take index tokens)) ≡ most

-- the place of a document that is too deep
pub data IsTooDeepDocument (most : ℕ) (tokens : List Token) (end : ℕ) : (place : ℕ) → Type 0 where
  at_bracket : (index : ℕ) → IsOneTooMany most tokens index
      → IsTooDeepDocument most tokens end (place_of tokens end index)

-- the place of a fault of syntax, where no bracket is too deep
pub record IsWrongDocument (most : ℕ) (tokens : List Token) (end place : ℕ) : Type 0 where
  pub syntax : IsSyntaxFault ADocument most tokens end place
  pub shallow : IsTooDeepDocument most tokens end place → ⊥
