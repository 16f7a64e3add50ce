-- What stands at the start of a text, or is a fault there: comments, quotes, signs.
use Rattle.std.proofs.Common.{◌≡◌, ℕ, ◌+◌, ◌-◌, ◌<◌, ◌≤◌, length, Bool, true, false, true≢false, List, [], ◌∷◌, ◌++◌, Option, Some, None, MatchOption, inl, inr, ◌⊎◌, refl, sym, ap, subst, ◌∙◌, arith}
use Rattle.std.proofs.lemmas.List.{length-append, append_assoc}
use Rattle.std.proofs.lemmas.Str.{encodes-append}
use Rattle.std.specs.Prelude.{encode_utf8_all, ◌&&◌, ◌||◌, ◌==◌, not}
use Rattle.std.specs.Char.{is_ascii_digit}
use Rattle.std.proofs.lemmas.Bool.{ne_eqb}
use Rattle.cd_syntax.specs.Name.{begins_word}
use Rattle.cd_syntax.specs.Numerals.{begins_number, begins_negative}
use Rattle.cd_syntax.specs.declared.sign.Sign.{Sign as ASign}
use Rattle.cd_syntax.specs.declared.sign.Sign.TheVariants as sign
use Rattle.cd_syntax.specs.declared.tokens.TokenKind.TheVariants.{Chars, Text, Sign}
use Rattle.cd_syntax.specs.declared.fault.TextFault.TheVariants.{BadChar, OpenText, OpenComment}
use Rattle.cd_syntax.specs.Signs.{characters, BeginsWith, IsLongest}
use Rattle.cd_syntax.specs.Comments.{begins_pair, Closes, IsComment, comment}
use Rattle.cd_syntax.specs.Tokens.{bytes}
use Rattle.cd_syntax.specs.Tokens as tokens
use Rattle.cd_syntax.specs.Faults.{is_other, HasFaultHere}
use Rattle.cd_syntax.specs.Faults as faults
use Rattle.cd_lex.specs.declared.lexer.Kind.{Kind}
use Rattle.cd_lex.specs.declared.lexer.Kind.TheVariants as kind
use Rattle.cd_lex.specs.Lexing.{with_characters}
use Rattle.cd_lex.specs.Inner.Prefixes.{BeginsWithOther}
use Rattle.cd_lex.specs.Inner.Standing.{BeginsWithNoSign, IsDroppedTo, IsTokenTo, IsSignTo}
use Rattle.cd_lex.specs.Inner.Commenting.{within, left_from}
use Rattle.cd_lex.proofs.Commenting.{closed_left, never_closed}
use Rattle.cd_lex.proofs.SignPrefixes.{lone_stands, open_parenthesis}
use Rattle.cd_lex.specs.Inner.Quoted.{IsClosed, IsBroken, IsOpen}

-- a blank
pub blank_stands : (c : ℕ) (rest : List ℕ) → tokens.is_blank c ≡ true → IsDroppedTo (c ∷ rest) rest
blank_stands c rest is = record { written = c ∷ []; is = refl; some = omega arith; dropped = tokens.blank c is }

-- a comment
comment_stands : (inside written rest : List ℕ) → inside ≡ written ++ rest → Closes 1 written → IsDroppedTo (40 ∷ 42 ∷ inside) rest
comment_stands inside written rest is closes = record {
  written = 40 ∷ 42 ∷ written;
  is = ap (λ text. 40 ∷ 42 ∷ text) is;
  some = omega arith;
  dropped = tokens.comment (40 ∷ 42 ∷ written) (comment written closes);
}

comment_open : (joined : Bool) (at : ℕ) (inside : List ℕ) → ((written rest : List ℕ) → inside ≡ written ++ rest → Closes 1 written → ⊥)
    → HasFaultHere joined at (40 ∷ 42 ∷ inside) (OpenComment at)
comment_open joined at inside none = faults.open_comment inside no_comment
  where
    no_comment : (written rest : List ℕ) → 40 ∷ 42 ∷ inside ≡ written ++ rest → IsComment written → ⊥
    no_comment _ rest is (comment within closes) =
        let same : inside ≡ within ++ rest = cc in
        none within rest same closes

-- what the machine finds
pub comment_closes : (text inside rest : List ℕ) → text ≡ 42 ∷ inside → left_from (within 0) inside ≡ Some rest → IsDroppedTo (40 ∷ text) rest
comment_closes text inside rest at found =
    let closed = closed_left inside rest found in
    subst (λ text. IsDroppedTo (40 ∷ text) rest) (sym at) (comment_stands inside closed.0 rest closed.1 closed.2)

pub comment_ends : (joined : Bool) (at : ℕ) (text inside : List ℕ) → text ≡ 42 ∷ inside → left_from (within 0) inside ≡ None
    → HasFaultHere joined at (40 ∷ text) (OpenComment at)
comment_ends joined at text inside is none =
    subst (λ text. HasFaultHere joined at (40 ∷ text) (OpenComment at)) (sym is) (comment_open joined at inside (never_closed inside none))

-- so many bytes
pub bytes_append : (left right : List ℕ) → bytes (left ++ right) ≡ bytes left + bytes right
bytes_append left right = ap length (encodes-append left right) ∙ length-append (encode_utf8_all left) (encode_utf8_all right)

-- quotes
quoted_is : (quote : ℕ) (written rest : List ℕ) → quote ∷ written ++ quote ∷ rest ≡ (quote ∷ written ++ quote ∷ []) ++ rest
quoted_is quote written rest = ap (λ text. quote ∷ text) (sym (append_assoc written (quote ∷ []) rest))

pub text_stands : (joined : Bool) (inside characters rest : List ℕ) → IsClosed 34 inside characters rest → IsTokenTo joined (34 ∷ inside) (Text characters) rest
text_stands joined inside characters rest closed = record {
  written = 34 ∷ closed.written ++ 34 ∷ [];
  is = ap (λ text. 34 ∷ text) closed.is ∙ quoted_is 34 closed.written rest;
  some = omega arith;
  writes = tokens.text closed.written characters rest closed.quotes;
}

pub chars_stand : (joined : Bool) (inside characters rest : List ℕ) → IsClosed 39 inside characters rest → IsTokenTo joined (39 ∷ inside) (Chars characters) rest
chars_stand joined inside characters rest closed = record {
  written = 39 ∷ closed.written ++ 39 ∷ [];
  is = ap (λ text. 39 ∷ text) closed.is ∙ quoted_is 39 closed.written rest;
  some = omega arith;
  writes = tokens.chars closed.written characters rest closed.quotes;
}

pub quoted_read : (joined : Bool) (quote : ℕ) (inside characters rest : List ℕ) (is : Kind) → (quote ≡ 34) ⊎ (quote ≡ 39)
    → (quote ≡ 34 → is ≡ kind.Text) → (quote ≡ 39 → is ≡ kind.Chars) → IsClosed quote inside characters rest
    → IsTokenTo joined (quote ∷ inside) (with_characters is characters) rest
quoted_read joined quote inside characters rest is (inl a) text chars closed =
    subst (λ is. IsTokenTo joined (quote ∷ inside) (with_characters is characters) rest) (sym (text a))
    (subst (λ quote. IsTokenTo joined (quote ∷ inside) (Text characters) rest) (sym a)
    (text_stands joined inside characters rest (subst (λ quote. IsClosed quote inside characters rest) a closed)))
quoted_read joined quote inside characters rest is (inr b) text chars closed =
    subst (λ is. IsTokenTo joined (quote ∷ inside) (with_characters is characters) rest) (sym (chars b))
    (subst (λ quote. IsTokenTo joined (quote ∷ inside) (Chars characters) rest) (sym b)
    (chars_stand joined inside characters rest (subst (λ quote. IsClosed quote inside characters rest) b closed)))

-- both are quotes
pub a_quote : (quote : ℕ) → (quote ≡ 34) ⊎ (quote ≡ 39) → faults.is_quote quote ≡ true
a_quote quote (inl is) = ap faults.is_quote is
a_quote quote (inr is) = ap faults.is_quote is

pub text_open : (joined : Bool) (at quote : ℕ) (inside : List ℕ) → faults.is_quote quote ≡ true → IsOpen quote inside → HasFaultHere joined at (quote ∷ inside) (OpenText at)
text_open joined at quote inside is is_open =
    subst (λ text. HasFaultHere joined at (quote ∷ text) (OpenText at)) (sym is_open.means.is)
    (faults.open_text quote is_open.means.written is_open.characters is_open.rest is is_open.means.quotes is_open.ends)

-- what is left has no more bytes
pub broken_within : (quote : ℕ) (inside rest : List ℕ) → IsBroken quote inside rest → bytes rest ≤ bytes (quote ∷ inside)
broken_within quote inside rest broken =
    let written = broken.means.written in
    let split : bytes (quote ∷ inside) ≡ bytes (quote ∷ written) + bytes rest =
    ap (λ text. bytes (quote ∷ text)) broken.means.is ∙ bytes_append (quote ∷ written) rest in
    omega arith

-- the place of the `\` is that of what is left
pub text_breaks : (joined : Bool) (at quote end place : ℕ) (inside rest : List ℕ) → faults.is_quote quote ≡ true → IsBroken quote inside rest
    → bytes (quote ∷ inside) ≤ end → at ≡ end - bytes (quote ∷ inside) → place ≡ end - bytes rest → HasFaultHere joined at (quote ∷ inside) (BadChar place)
text_breaks joined at quote end place inside rest is broken fits from to =
    let written = broken.means.written in
    let split : bytes (quote ∷ inside) ≡ bytes (quote ∷ written) + bytes rest =
    ap (λ text. bytes (quote ∷ text)) broken.means.is ∙ bytes_append (quote ∷ written) rest in
    let place_is : place ≡ at + bytes (quote ∷ written) = omega arith in
    subst (λ place. HasFaultHere joined at (quote ∷ inside) (BadChar place)) (sym place_is)
    (subst (λ text. HasFaultHere joined at (quote ∷ text) (BadChar (at + bytes (quote ∷ written)))) (sym broken.means.is)
    (faults.escape quote written broken.characters rest is broken.means.quotes broken.breaks))

-- each sign has a character
pub some_characters : (is : ASign) → 0 < length (characters is)
some_characters sign.StarTo = omega arith
some_characters sign.ToStar = omega arith
some_characters sign.StarQuestion = omega arith
some_characters sign.PlusQuestion = omega arith
some_characters sign.QuestionQuestion = omega arith
some_characters sign.EqualQuestion = omega arith
some_characters sign.To = omega arith
some_characters sign.Arrow = omega arith
some_characters sign.ColonColon = omega arith
some_characters sign.Becomes = omega arith
some_characters sign.Dots = omega arith
some_characters sign.NotEqual = omega arith
some_characters sign.LessEqual = omega arith
some_characters sign.GreaterEqual = omega arith
some_characters sign.AndAnd = omega arith
some_characters sign.OrOr = omega arith
some_characters sign.Semicolons = omega arith
some_characters sign.SlashAt = omega arith
some_characters sign.OpenParenthesis = omega arith
some_characters sign.CloseParenthesis = omega arith
some_characters sign.OpenBracket = omega arith
some_characters sign.CloseBracket = omega arith
some_characters sign.OpenBrace = omega arith
some_characters sign.CloseBrace = omega arith
some_characters sign.Less = omega arith
some_characters sign.Greater = omega arith
some_characters sign.Equal = omega arith
some_characters sign.Question = omega arith
some_characters sign.Star = omega arith
some_characters sign.Plus = omega arith
some_characters sign.Minus = omega arith
some_characters sign.Backslash = omega arith
some_characters sign.Or = omega arith
some_characters sign.And = omega arith
some_characters sign.Comma = omega arith
some_characters sign.Semicolon = omega arith
some_characters sign.Dot = omega arith
some_characters sign.Slash = omega arith
some_characters sign.Splice = omega arith
some_characters sign.At = omega arith

pub sign_stands : (joined : Bool) (text : List ℕ) (is : ASign) (rest : List ℕ) → IsSignTo text is rest → begins_pair 40 42 text ≡ false
    → (joined ≡ false → begins_negative text ≡ false) → IsTokenTo joined text (Sign is) rest
sign_stands joined text is rest stands no_comment no_number = record {
  written = characters is;
  is = stands.written;
  some = some_characters is;
  writes =
      tokens.sign is rest (subst (IsLongest is) stands.written stands.longest) (subst (λ t. begins_pair 40 42 t ≡ false) stands.written no_comment)
      (λ apart. subst (λ t. begins_negative t ≡ false) stands.written (no_number apart));
}

-- neither a comment nor a number begins with another character than `(` and `-`
pub other_sign_stands : (joined : Bool) (c : ℕ) (text : List ℕ) (is : ASign) (rest : List ℕ) → (c ≡ 40 → ⊥) → (c ≡ 45 → ⊥) → IsSignTo (c ∷ text) is rest
    → IsTokenTo joined (c ∷ text) (Sign is) rest
other_sign_stands joined c text is rest no_parenthesis no_minus stands =
    sign_stands joined (c ∷ text) is rest stands (no_pair text) (λ apart. no_number text)
  where
    no_pair : (text : List ℕ) → begins_pair 40 42 (c ∷ text) ≡ false
    no_pair [] = refl
    no_pair (d ∷ ds) = ap (λ b. b && (d == 42)) (ne_eqb c 40 no_parenthesis)

    no_number : (text : List ℕ) → begins_negative (c ∷ text) ≡ false
    no_number text = ap (λ b. b && begins_number text) (ne_eqb c 45 no_minus)

-- a `(` with no `*` after it
pub parenthesis_stands : (joined : Bool) (text : List ℕ) → BeginsWithOther 42 text → IsTokenTo joined (40 ∷ text) (Sign sign.OpenParenthesis) text
parenthesis_stands joined text other = sign_stands joined (40 ∷ text) sign.OpenParenthesis text (lone_stands 40 40 sign.OpenParenthesis text open_parenthesis refl) (no_pair text other) (λ apart. refl)
  where
    no_pair : (text : List ℕ) → BeginsWithOther 42 text → begins_pair 40 42 (40 ∷ text) ≡ false
    no_pair [] other = refl
    no_pair (d ∷ ds) other = ne_eqb d 42 other

-- a `-` that is joined, or has no number after it
pub minus_stands : (joined : Bool) (text : List ℕ) (is : ASign) (rest : List ℕ) → (joined ≡ false → begins_number text ≡ false) → IsSignTo (45 ∷ text) is rest
    → IsTokenTo joined (45 ∷ text) (Sign is) rest
minus_stands joined text is rest no_number stands = sign_stands joined (45 ∷ text) is rest stands (no_pair text) no_number
  where
    no_pair : (text : List ℕ) → begins_pair 40 42 (45 ∷ text) ≡ false
    no_pair [] = refl
    no_pair (d ∷ ds) = refl

pub no_sign : (joined : Bool) (at c : ℕ) (rest : List ℕ) → is_other c ≡ true → begins_number (c ∷ rest) ≡ false → (c ≡ 96 → ⊥) → ((is : ASign) → BeginsWith (c ∷ rest) is → ⊥)
    → HasFaultHere joined at (c ∷ rest) (BadChar at)
no_sign joined at c rest other no_number no_backquote none =
    faults.character c rest other no_number none (λ name more is label ends. let same : c ≡ 96 = cc in no_backquote same)

-- a character that begins nothing else
pub other_by : (c : ℕ) → tokens.is_blank c ≡ false → begins_word c ≡ false
    → is_ascii_digit c ≡ false → (c ≡ 34 → ⊥) → (c ≡ 39 → ⊥) → is_other c ≡ true
other_by c no_blank no_word no_digit a b =
    none_of (tokens.is_blank c) (begins_word c) (is_ascii_digit c) (c == 34)
    (c == 39) no_blank no_word no_digit (ne_eqb c 34 a) (ne_eqb c 39 b)
  where
    none_of : (blank word digit text chars : Bool) → blank ≡ false → word ≡ false
        → digit ≡ false → text ≡ false → chars ≡ false
        → not (blank || word || digit || (text || chars)) ≡ true
    none_of true word digit text chars a b c d e = absurd (true≢false a)
    none_of false true digit text chars a b c d e = absurd (true≢false b)
    none_of false false true text chars a b c d e = absurd (true≢false c)
    none_of false false false true chars a b c d e = absurd (true≢false d)
    none_of false false false false true a b c d e = absurd (true≢false e)
    none_of false false false false false a b c d e = refl

-- a sign that was taken off, if it begins with neither `(` nor `-`
pub sign_taken : (found : Option ASign) (c : ℕ) (text new : List ℕ) → (c ≡ 40 → ⊥) → (c ≡ 45 → ⊥)
    → MatchOption found ((new ≡ text) × ((is : ASign) → BeginsWith (c ∷ text) is
    → ⊥)) (λ is. IsSignTo (c ∷ text) is new)
    → MatchOption found ((new ≡ text) × BeginsWithNoSign (c ∷ text)) (λ is. (joined : Bool)
    → IsTokenTo joined (c ∷ text) (Sign is) new)
sign_taken None c text new no_parenthesis no_minus none = (none.0, λ a b. none.1)
sign_taken (Some is) c text new no_parenthesis no_minus stands = λ joined. other_sign_stands
    joined c text is new no_parenthesis no_minus stands

pub parenthesis_taken : (found : Option ASign) (c : ℕ) (text : List ℕ) → c ≡ 40
    → MatchOption found (Unit {0})
    (λ is. (joined : Bool) → IsTokenTo joined (40 ∷ text) (Sign is) text)
    → MatchOption found ((text ≡ text) × BeginsWithNoSign (c ∷ text))
    (λ is. (joined : Bool) → IsTokenTo joined (c ∷ text) (Sign is) text)
parenthesis_taken None c text at none = (refl, λ differs no_minus is begins. differs at)
parenthesis_taken (Some is) c text at stands = λ joined.
    subst (λ c. IsTokenTo joined (c ∷ text) (Sign is) text) (sym at) (stands joined)
