-- What the tokens of a text hold is in range: integers fit 128 bits, and characters are of Unicode.
use Rattle.std.proofs.Common.{refl, ℕ, Bool, List, ◌∷◌, []}
use Rattle.std.specs.Char.{IsScalar}
use Rattle.cd_syntax.specs.declared.tokens.Token.{Token}
use Rattle.cd_syntax.specs.declared.tokens.TokenKind.{TokenKind}
use Rattle.cd_syntax.specs.declared.tokens.TokenKind.TheVariants as kinds
use Rattle.cd_syntax.specs.Integer.{IsInteger}
use Rattle.cd_syntax.specs.Quotes as quotes
use Rattle.cd_syntax.specs.Quotes.{Quotes, IsEscapeLetter}
use Rattle.cd_syntax.specs.Tokens.{IsLexemeOf, Lexes, word, number, negative, chars, text, atom, sign}
use Rattle.cd_syntax.specs.Tokens.{nothing, dropped, token}
use Rattle.cd_model.specs.AllOf.{AllOf}
use Rattle.cd_model.proofs.Covered.{each_parts}

abbrev pub TokenInRange : TokenKind → Type 0
TokenInRange (kinds.Int n) = IsInteger n
TokenInRange (kinds.Chars characters) = AllOf IsScalar characters
TokenInRange (kinds.Text characters) = AllOf IsScalar characters
TokenInRange (kinds.Atom name) = AllOf IsScalar name
TokenInRange _ = Unit {0}

escape_scalar : (letter c : ℕ) → IsEscapeLetter letter c → IsScalar c
escape_scalar _ _ quotes.line_feed = refl
escape_scalar _ _ quotes.carriage_return = refl
escape_scalar _ _ quotes.tab = refl
escape_scalar _ _ quotes.backslash = refl
escape_scalar _ _ quotes.apostrophe = refl
escape_scalar _ _ quotes.quote = refl

quoted_scalars : (quote : ℕ) (written characters : List ℕ) → Quotes quote written characters
    → AllOf IsScalar written → AllOf IsScalar characters
quoted_scalars quote _ _ quotes.nothing are = tt
quoted_scalars quote _ _ (quotes.itself c written characters other not_escape rest) are =
    (are.0, quoted_scalars quote written characters rest are.1)
quoted_scalars quote _ _ (quotes.letter letter c written characters is rest) are =
    (escape_scalar letter c is, quoted_scalars quote written characters rest are.1.1)
quoted_scalars quote _ _ (quotes.code digits written characters is rest) are =
    let after = each_parts IsScalar digits (59 ∷ written) are.1 in
    (is.scalar, quoted_scalars quote written characters rest after.1.1)

kind_in_range : (joined : Bool) (written after : List ℕ) (kind : TokenKind) → IsLexemeOf joined written after kind
    → AllOf IsScalar written → TokenInRange kind
kind_in_range joined _ _ _ (word name after is ends) are = tt
kind_in_range joined _ _ _ (number written after n is fits) are = fits
kind_in_range joined _ _ _ (negative written after n apart is fits) are = fits
kind_in_range joined _ _ _ (chars written characters after is) are =
    quoted_scalars 39 written characters is (each_parts IsScalar written (39 ∷ []) are.1).0
kind_in_range joined _ _ _ (text written characters after is) are =
    quoted_scalars 34 written characters is (each_parts IsScalar written (34 ∷ []) are.1).0
kind_in_range joined _ _ _ (atom name after label ends) are = are.1
kind_in_range joined _ _ _ (sign is after longest no_pair no_number) are = tt

pub tokens_in_range : (joined : Bool) (at : ℕ) (source : List ℕ) (tokens : List Token) → Lexes joined at source tokens
    → AllOf IsScalar source → AllOf (λ one. TokenInRange one.kind) tokens
tokens_in_range _ _ _ _ (nothing joined at) are = tt
tokens_in_range _ _ _ _ (dropped joined at written after tokens drops lexes) are =
    tokens_in_range _ _ after tokens lexes (each_parts IsScalar written after are).1
tokens_in_range _ _ _ _ (token joined at written after kind tokens writes lexes) are =
    let parts = each_parts IsScalar written after are in
    (kind_in_range joined written after kind writes parts.0, tokens_in_range _ _ after tokens lexes parts.1)
