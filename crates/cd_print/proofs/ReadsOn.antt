-- Texts and their tokens, where the tokens of what follows are known at each place.
use Rattle.std.proofs.Common.{ℕ, ◌+◌, Bool, true, false, List, [], ◌∷◌, ◌++◌, refl, sym, subst, append_assoc}
use Rattle.cd_syntax.specs.Signs.{characters, closes}
use Rattle.cd_syntax.specs.Tokens as tokens
use Rattle.cd_syntax.specs.Tokens.{EndsWord, IsLexemeOf, Lexes, IsDropped, joins, bytes, token_at}
use Rattle.cd_syntax.specs.Tokens.{at}
use Rattle.cd_syntax.specs.declared.sign.Sign.{Sign as ASign}
use Rattle.cd_syntax.specs.declared.tokens.Span.{Span}
use Rattle.cd_syntax.specs.declared.tokens.Token.{Token}
use Rattle.cd_syntax.specs.declared.tokens.TokenKind.{TokenKind}
use Rattle.cd_syntax.specs.declared.tokens.TokenKind.TheVariants as token
use Rattle.cd_print.proofs.OneSign.{Starts, IsAlone, sign_written}

-- the text spells such tokens, and then those that follow where they end
pub record Reads (joined : Bool) (from : ℕ) (text : List ℕ) (more : ℕ → List Token) (fact : List Token → Type 0) : Type 0 where
  pub tokens : List Token
  pub end : ℕ
  pub lexes : Lexes joined from text (tokens ++ more end)
  pub is : fact tokens

-- the text of a value: it begins as a value does, and is read before all that ends a word
pub record PrintedAs (text : List ℕ) (fact : List Token → Type 0) : Type 0 where
  pub starts : (rest : List ℕ) → Starts (text ++ rest)
  pub reads : (rest : List ℕ) (more : ℕ → List Token) → EndsWord rest → ((from : ℕ) → Lexes true from rest (more from))
      → (from : ℕ) → Reads false from (text ++ rest) more fact

pub weaker : {joined : Bool} {from : ℕ} {text : List ℕ} {more : ℕ → List Token} (fact other : List Token → Type 0)
    → ((tokens : List Token) → fact tokens → other tokens) → Reads joined from text more fact → Reads joined from text more other
weaker fact other on reads = record { tokens = reads.tokens; end = reads.end; lexes = reads.lexes; is = on reads.tokens reads.is }

module _ (more : ℕ → List Token) where
  -- nothing stands before what follows
  pub nothing_more : (rest : List ℕ) (fact : List Token → Type 0) → ((from : ℕ) → Lexes true from rest (more from)) → fact []
      → (from : ℕ) → Reads true from rest more fact
  nothing_more rest fact lexes is from = record { tokens = []; end = from; lexes = lexes from; is = is }

  -- a token, and then others
  pub token_then : (joined : Bool) (kind : TokenKind) (written text : List ℕ) (fact other : List Token → Type 0)
      → IsLexemeOf joined written text kind → ((from : ℕ) → Reads (joins kind) from text more fact)
      → ((span : Span) (tokens : List Token) → fact tokens → other (at kind span ∷ tokens))
      → (from : ℕ) → Reads joined from (written ++ text) more other
  token_then joined kind written text fact other writes on put from =
      let later = on (from + bytes written) in
      record {
        tokens = token_at from written kind ∷ later.tokens;
        end = later.end;
        lexes = tokens.token joined from written text kind (later.tokens ++ more later.end) writes later.lexes;
        is = put (token_at from written kind).span later.tokens later.is;
      }

  pub sign_then : (joined : Bool) (is : ASign) (text : List ℕ) (fact other : List Token → Type 0)
      → IsAlone is text → ((from : ℕ) → Reads (closes is) from text more fact)
      → ((span : Span) (tokens : List Token) → fact tokens → other (at (token.Sign is) span ∷ tokens))
      → (from : ℕ) → Reads joined from (characters is ++ text) more other
  sign_then joined is text fact other alone on put from =
      token_then joined (token.Sign is) (characters is) text fact other (sign_written joined is text alone) on put from

  pub blank_then : (joined : Bool) (text : List ℕ) (fact : List Token → Type 0) → ((from : ℕ) → Reads false from text more fact)
      → (from : ℕ) → Reads joined from (32 ∷ text) more fact
  blank_then joined text fact on from =
      let later = on (from + bytes (32 ∷ [])) in
      record {
        tokens = later.tokens;
        end = later.end;
        lexes = tokens.dropped joined from (32 ∷ []) text (later.tokens ++ more later.end) (tokens.blank 32 refl) later.lexes;
        is = later.is;
      }

  -- a value, and then others
  pub value_then : (value text : List ℕ) (first second both : List Token → Type 0) → PrintedAs value first → EndsWord text
      → ((from : ℕ) → Reads true from text more second)
      → ((one other : List Token) → first one → second other → both (one ++ other))
      → (from : ℕ) → Reads false from (value ++ text) more both
  value_then value text first second both written ends on join from =
      let one = written.reads text (λ from. (on from).tokens ++ more (on from).end) ends (λ from. (on from).lexes) from in
      let other = on one.end in
      record {
        tokens = one.tokens ++ other.tokens;
        end = other.end;
        lexes = subst (Lexes false from (value ++ text)) (sym (append_assoc one.tokens other.tokens (more other.end))) one.lexes;
        is = join one.tokens other.tokens one.is other.is;
      }
