-- What a text of a document is read as.
use Rattle.std.specs.Prelude.{ℕ, List, false}
use Rattle.cd_syntax.specs.declared.tokens.Token.{Token}
use Rattle.cd_syntax.specs.Tokens.{Lexes, bytes}
use Rattle.cd_model.specs.Thing.{Thing}
use Rattle.cd_documents.specs.Document.{IsDocument}
use Rattle.cd_documents.specs.DocumentFaults.{IsWrongDocument, IsTooDeepDocument}

-- so many brackets may be open
abbrev pub most_open : ℕ
most_open = 1000

-- the text stands for the value: its tokens are a document of it
pub record WritesValue (text : List ℕ) (value : Thing) : Type 0 where
  pub tokens : List Token
  pub lexes : Lexes false 0 text tokens
  pub document : IsDocument most_open tokens value

-- the text has tokens, and they stop being a document at this place
pub record IsWrongText (text : List ℕ) (place : ℕ) : Type 0 where
  pub tokens : List Token
  pub lexes : Lexes false 0 text tokens
  pub wrong : IsWrongDocument most_open tokens (bytes text) place

-- the text has tokens, and one bracket too many opens at this place
pub record IsTooDeepText (text : List ℕ) (place : ℕ) : Type 0 where
  pub tokens : List Token
  pub lexes : Lexes false 0 text tokens
  pub deep : IsTooDeepDocument most_open tokens (bytes text) place
