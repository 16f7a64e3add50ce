-- Why a text is not read, and why it has no tokens.
use Rattle.std.specs.Prelude.{◌≡◌, ℕ, pos, ◌+◌, ◌==◌, ◌||◌, not, neg_ℤ, Bool, true, false, List}
use Rattle.std.specs.Prelude.{◌∷◌, ◌++◌}
use Rattle.std.specs.Char.{is_ascii_digit}
use Rattle.cd_syntax.specs.declared.sign.Sign.{Sign}
use Rattle.cd_syntax.specs.declared.tokens.TokenKind.{TokenKind}
use Rattle.cd_syntax.specs.declared.fault.TextError.{TextError}
use Rattle.cd_syntax.specs.declared.fault.TextError.TheVariants.{Fault, Memory}
use Rattle.cd_syntax.specs.declared.fault.TextFault.{TextFault}
use Rattle.cd_syntax.specs.declared.fault.TextFault.TheVariants.{BadChar, OpenText, OpenComment}
use Rattle.cd_syntax.specs.declared.fault.TextFault.TheVariants.{TooWide}
use Rattle.cd_syntax.specs.Integer.{IsInteger}
use Rattle.cd_syntax.specs.Name.{begins_word, IsLabel}
use Rattle.cd_syntax.specs.Numerals.{IsNumeral, begins_number}
use Rattle.cd_syntax.specs.Signs.{BeginsWith}
use Rattle.cd_syntax.specs.Quotes.{Quotes, BeginsNoEscape, EndsHalf}
use Rattle.cd_syntax.specs.Comments.{IsComment}
use Rattle.cd_syntax.specs.Tokens.{is_blank, EndsWord, bytes, IsDropped, IsLexemeOf, joins}

-- the text is refused by such a fault, or memory ran out
abbrev pub IfFault : TextError → (such : TextFault → Type 0) → Type 0
IfFault (Fault fault) such = such fault
IfFault Memory such = Unit {0}

-- `"` or `'`
abbrev pub is_quote : ℕ → Bool
is_quote c = (c == 34) || (c == 39)

-- no blank, word, decimal number without a sign or quoted text begins with this character
abbrev pub is_other : ℕ → Bool
is_other c = not (is_blank c || begins_word c || is_ascii_digit c || is_quote c)

-- the text, which begins at this byte, has a fault at its start
pub data HasFaultHere (joined : Bool) (at : ℕ) : List ℕ → TextFault → Type 0 where
  -- a character that begins no token; a `#` may begin a number
  character : (c : ℕ) (text : List ℕ) → is_other c ≡ true → begins_number (c ∷ text) ≡ false
      → ((is : Sign) → BeginsWith (c ∷ text) is → ⊥)
      → ((name rest : List ℕ) → c ∷ text ≡ 96 ∷ name ++ rest → IsLabel name → EndsWord rest → ⊥)
      → HasFaultHere joined at (c ∷ text) (BadChar at)
  -- between quotes, a `\` that no escape can begin with
  escape : (quote : ℕ) (written characters text : List ℕ) → is_quote quote ≡ true
      → Quotes quote written characters → BeginsNoEscape text
      → HasFaultHere joined at (quote ∷ written ++ text) (BadChar (at + bytes (quote ∷ written)))
  open_text : (quote : ℕ) (written characters text : List ℕ) → is_quote quote ≡ true
      → Quotes quote written characters → EndsHalf text
      → HasFaultHere joined at (quote ∷ written ++ text) (OpenText at)
  -- no prefix of the text is a comment
  open_comment : (text : List ℕ)
      → ((written rest : List ℕ) → 40 ∷ 42 ∷ text ≡ written ++ rest → IsComment written → ⊥)
      → HasFaultHere joined at (40 ∷ 42 ∷ text) (OpenComment at)
  number : (written text : List ℕ) (n : ℕ) → IsNumeral written text n → (IsInteger (pos n) → ⊥)
      → HasFaultHere joined at (written ++ text) (TooWide at)
  negative : (written text : List ℕ) (n : ℕ) → joined ≡ false → IsNumeral written text n
      → (IsInteger (neg_ℤ (pos n)) → ⊥)
      → HasFaultHere joined at (45 ∷ written ++ text) (TooWide at)

-- this is the first fault of the text, which begins at this byte: tokens and what is dropped stand
-- before it
pub data HasFirstFault : (joined : Bool) (at : ℕ) → List ℕ → TextFault → Type 0 where
  here : (joined : Bool) (at : ℕ) (text : List ℕ) (fault : TextFault)
      → HasFaultHere joined at text fault
      → HasFirstFault joined at text fault
  after_dropped : (joined : Bool) (at : ℕ) (written text : List ℕ) (fault : TextFault)
      → IsDropped written
      → HasFirstFault false (at + bytes written) text fault
      → HasFirstFault joined at (written ++ text) fault
  after_token : (joined : Bool) (at : ℕ) (written text : List ℕ) (kind : TokenKind)
      (fault : TextFault) → IsLexemeOf joined written text kind
      → HasFirstFault (joins kind) (at + bytes written) text fault
      → HasFirstFault joined at (written ++ text) fault
