-- Tokens are a document of one value at most.
use Rattle.std.proofs.Common.{◌≡◌, ◌∙◌, sym, ap, ℕ, List, Option, Some, Result, Ok}
use Rattle.cd_syntax.specs.declared.tokens.Token.{Token}
use Rattle.cd_model.specs.Thing.{Thing}
use Rattle.cd_documents.specs.Document.{IsDocument}
use Rattle.cd_documents.specs.Machine.{Fault}
use Rattle.cd_documents.proofs.Completing.{reads}

abbrev value_or : Thing → Result (Option Thing) Fault → Thing
value_or value (Ok (Some found)) = found
value_or value other = value

pub one_value : (most : ℕ) (tokens : List Token) (one other : Thing) → IsDocument most tokens one → IsDocument most tokens other → one ≡ other
one_value most tokens one other first second = ap (value_or one) (sym (reads most tokens one first) ∙ reads most tokens other second)
