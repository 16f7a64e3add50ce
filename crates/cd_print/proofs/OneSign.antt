-- Signs of one character, where no longer one stands.
use Rattle.std.proofs.Common.{◌≡◌, ℕ, ◌≤◌, ◌==◌, Bool, false, List, [], ◌∷◌, ◌++◌, length, refl, sym, subst, true≢false, arith}
use Rattle.std.specs.List.{list_any}
use Rattle.cd_syntax.specs.Signs.{characters}
use Rattle.cd_syntax.specs.Comments.{begins_pair}
use Rattle.cd_syntax.specs.Numerals.{begins_negative}
use Rattle.cd_syntax.specs.Tokens.{IsLexemeOf}
use Rattle.cd_syntax.specs.Tokens as tokens
use Rattle.cd_syntax.specs.declared.sign.Sign.{Sign as ASign}
use Rattle.cd_syntax.specs.declared.sign.Sign.TheVariants as sign
use Rattle.cd_syntax.specs.declared.tokens.TokenKind.TheVariants as token

-- the text begins as a sign of two characters or more does
abbrev begins_long : List ℕ → Bool
begins_long text =
    list_any (λ (pair : ℕ × ℕ). begins_pair pair.0 pair.1 text)
    ((42, 45) ∷ (45, 45) ∷ (42, 63) ∷ (43, 63) ∷ (63, 63) ∷ (61, 63) ∷ (45, 62) ∷ (58, 58) ∷ (58, 61) ∷ (46, 46)
    ∷ (33, 61) ∷ (60, 61) ∷ (62, 61) ∷ (38, 38) ∷ (124, 124) ∷ (59, 59) ∷ (47, 64) ∷ [])

no_longer : (other : ASign) (rest : List ℕ) → begins_long (characters other ++ rest) ≡ false → length (characters other) ≤ 1
no_longer sign.StarTo rest not = absurd (true≢false not)
no_longer sign.ToStar rest not = absurd (true≢false not)
no_longer sign.StarQuestion rest not = absurd (true≢false not)
no_longer sign.PlusQuestion rest not = absurd (true≢false not)
no_longer sign.QuestionQuestion rest not = absurd (true≢false not)
no_longer sign.EqualQuestion rest not = absurd (true≢false not)
no_longer sign.To rest not = absurd (true≢false not)
no_longer sign.Arrow rest not = absurd (true≢false not)
no_longer sign.ColonColon rest not = absurd (true≢false not)
no_longer sign.Becomes rest not = absurd (true≢false not)
no_longer sign.Dots rest not = absurd (true≢false not)
no_longer sign.NotEqual rest not = absurd (true≢false not)
no_longer sign.LessEqual rest not = absurd (true≢false not)
no_longer sign.GreaterEqual rest not = absurd (true≢false not)
no_longer sign.AndAnd rest not = absurd (true≢false not)
no_longer sign.OrOr rest not = absurd (true≢false not)
no_longer sign.Semicolons rest not = absurd (true≢false not)
no_longer sign.SlashAt rest not = absurd (true≢false not)
no_longer sign.OpenParenthesis rest not = omega arith
no_longer sign.CloseParenthesis rest not = omega arith
no_longer sign.OpenBracket rest not = omega arith
no_longer sign.CloseBracket rest not = omega arith
no_longer sign.OpenBrace rest not = omega arith
no_longer sign.CloseBrace rest not = omega arith
no_longer sign.Less rest not = omega arith
no_longer sign.Greater rest not = omega arith
no_longer sign.Equal rest not = omega arith
no_longer sign.Question rest not = omega arith
no_longer sign.Star rest not = omega arith
no_longer sign.Plus rest not = omega arith
no_longer sign.Minus rest not = omega arith
no_longer sign.Backslash rest not = omega arith
no_longer sign.Or rest not = omega arith
no_longer sign.And rest not = omega arith
no_longer sign.Comma rest not = omega arith
no_longer sign.Semicolon rest not = omega arith
no_longer sign.Dot rest not = omega arith
no_longer sign.Slash rest not = omega arith
no_longer sign.Splice rest not = omega arith
no_longer sign.At rest not = omega arith

-- a sign of one character is read before such a text
pub record IsAlone (is : ASign) (text : List ℕ) : Type 0 where
  pub one : length (characters is) ≡ 1
  pub long : begins_long (characters is ++ text) ≡ false
  pub comment : begins_pair 40 42 (characters is ++ text) ≡ false
  pub number : begins_negative (characters is ++ text) ≡ false

pub sign_written : (joined : Bool) (is : ASign) (text : List ℕ) → IsAlone is text → IsLexemeOf joined (characters is) text (token.Sign is)
sign_written joined is text alone =
    tokens.sign is text
    (record {
      stands = (text, refl);
      longest = λ other begins.
          subst (λ n. length (characters other) ≤ n) (sym alone.one)
          (no_longer other begins.0 (subst (λ t. begins_long t ≡ false) begins.1 alone.long));
    })
    alone.comment (λ apart. alone.number)

-- a value begins so
pub record StartsValue (c : ℕ) : Type 0 where
  pub no_equal : (c == 61) ≡ false
  pub no_question : (c == 63) ≡ false
  pub no_star : (c == 42) ≡ false

abbrev pub Starts : List ℕ → Type 0
Starts [] = ⊥
Starts (c ∷ rest) = StartsValue c

pub close_parenthesis : (text : List ℕ) → IsAlone sign.CloseParenthesis text
close_parenthesis [] = record { one = refl; long = refl; comment = refl; number = refl }
close_parenthesis (c ∷ text) = record { one = refl; long = refl; comment = refl; number = refl }

pub open_bracket : (text : List ℕ) → IsAlone sign.OpenBracket text
open_bracket [] = record { one = refl; long = refl; comment = refl; number = refl }
open_bracket (c ∷ text) = record { one = refl; long = refl; comment = refl; number = refl }

pub close_bracket : (text : List ℕ) → IsAlone sign.CloseBracket text
close_bracket [] = record { one = refl; long = refl; comment = refl; number = refl }
close_bracket (c ∷ text) = record { one = refl; long = refl; comment = refl; number = refl }

pub open_brace : (text : List ℕ) → IsAlone sign.OpenBrace text
open_brace [] = record { one = refl; long = refl; comment = refl; number = refl }
open_brace (c ∷ text) = record { one = refl; long = refl; comment = refl; number = refl }

pub close_brace : (text : List ℕ) → IsAlone sign.CloseBrace text
close_brace [] = record { one = refl; long = refl; comment = refl; number = refl }
close_brace (c ∷ text) = record { one = refl; long = refl; comment = refl; number = refl }

pub comma : (text : List ℕ) → IsAlone sign.Comma text
comma [] = record { one = refl; long = refl; comment = refl; number = refl }
comma (c ∷ text) = record { one = refl; long = refl; comment = refl; number = refl }

pub open_parenthesis : (text : List ℕ) → Starts text → IsAlone sign.OpenParenthesis text
open_parenthesis [] starts = absurd starts
open_parenthesis (c ∷ text) starts = record { one = refl; long = refl; comment = starts.no_star; number = refl }

pub greater : (text : List ℕ) → Starts text → IsAlone sign.Greater text
greater [] starts = absurd starts
greater (c ∷ text) starts = record { one = refl; long = rw starts.no_equal refl; comment = refl; number = refl }

pub equal : (text : List ℕ) → Starts text → IsAlone sign.Equal text
equal [] starts = absurd starts
equal (c ∷ text) starts = record { one = refl; long = rw starts.no_question refl; comment = refl; number = refl }

-- a blank follows
pub semicolon : (text : List ℕ) → IsAlone sign.Semicolon (32 ∷ text)
semicolon text = record { one = refl; long = refl; comment = refl; number = refl }

-- a word follows
pub less : (c : ℕ) (text : List ℕ) → (c == 61) ≡ false → IsAlone sign.Less (c ∷ text)
less c text no_equal = record { one = refl; long = rw no_equal refl; comment = refl; number = refl }
