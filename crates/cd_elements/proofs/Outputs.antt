-- A text with more at its end has the characters of that more.
use Rattle.std.proofs.Common.{◌≡◌, ℕ, ℤ, pos, negsuc, suc, ◌<◌, length, length-append, List, [], ◌∷◌, ◌++◌, sym, ap, ◌∙◌}
use Rattle.std.proofs.Common.{append-nil, encode_utf8, arith}
use Rattle.std.specs.Prelude.{Result, Ok, Err, is_ok, if◌then◌else◌, OnOk}
use Rattle.std.specs.Char.{IsScalar}
use Rattle.std.specs.Str.{chars, IsUtf8, IsAscii}
use Rattle.std.specs.Fmt.{decimal, signed_decimal}
use Rattle.std.proofs.lemmas.Result.{on_ok_weaker}
use Rattle.std.proofs.lemmas.Int.{ints}
use Rattle.std.proofs.lemmas.Str.{chars-nil, chars-append, chars_past_char, IsUtf8-encode, chars-IsAscii}
use Rattle.std.proofs.lemmas.Str.Ascii.{IsAscii-cons}
use Rattle.std.proofs.lemmas.Fmt.{IsAscii-decimal_wide, decimal_is_IsNumeral_wide}
use Rattle.cd_syntax.specs.Integer.{IsInteger}

pub written_more : {T E : Type 0} (done : Result T E) (old new more were text : List ℕ) → IsUtf8 old → chars old ≡ were
    → chars more ≡ text
    → OnOk done (new ≡ old ++ more) → OnOk done (chars new ≡ were ++ text)
written_more done old new more were text utf8 old_is more_is = on_ok_weaker done (λ same.
    ap chars same ∙ chars-append old more utf8 ∙ ap (λ one. one ++ chars more) old_is ∙ ap (λ one. were ++ one) more_is)

pub when_ok : {T E : Type 0} (done : Result T E) (new old more : List ℕ)
    → new ≡ (if is_ok done then old ++ more else old) → OnOk done (new ≡ old ++ more)
when_ok (Ok value) new old more same = same
when_ok (Err error) new old more same = tt

pub one_character : (c : ℕ) → IsScalar c → chars (encode_utf8 c) ≡ c ∷ []
one_character c is =
    chars_past_char (encode_utf8 c) [] c (IsUtf8-encode c is) (sym (append-nil (encode_utf8 c)))
    ∙ ap (λ rest. c ∷ rest) chars-nil

-- digits are ASCII
ascii_signed : (n : ℤ) → IsInteger n → IsAscii (signed_decimal n)
ascii_signed (pos n) is = IsAscii-decimal_wide n (omega (arith, ints))
ascii_signed (negsuc n) is =
    IsAscii-cons 45 (decimal (suc n)) (omega arith) (IsAscii-decimal_wide (suc n) (omega (arith, ints)))

pub number_characters : (n : ℤ) → IsInteger n → chars (signed_decimal n) ≡ signed_decimal n
number_characters n is = chars-IsAscii (signed_decimal n) (ascii_signed n is)

-- a number is written by a character at least
some_digit : (n : ℤ) → IsInteger n → 0 < length (signed_decimal n)
some_digit (pos n) is = (decimal_is_IsNumeral_wide n (omega (arith, ints))).0.0
some_digit (negsuc n) is = omega arith

pub number_longer : (new were : List ℕ) (n : ℤ) → IsInteger n → new ≡ were ++ signed_decimal n → length were < length new
number_longer new were n is same = omega (arith, some_digit n is, length-append were (signed_decimal n), ap length same)
