-- The text of an integer is ASCII.
use Rattle.std.proofs.Common.{◌≡◌, ℤ, pos, negsuc, suc, arith}
use Rattle.std.specs.Str.{chars, IsAscii}
use Rattle.std.specs.Fmt.{decimal, signed_decimal}
use Rattle.std.specs.Int.{w128}
use Rattle.std.specs.Int.RustNames.{FitsSigned}
use Rattle.std.proofs.lemmas.Int.{ints}
use Rattle.std.proofs.lemmas.Str.{chars-IsAscii}
use Rattle.std.proofs.lemmas.Str.Ascii.{IsAscii-cons}
use Rattle.std.proofs.lemmas.Fmt.{IsAscii-decimal_wide}

ascii_signed : (n : ℤ) → FitsSigned w128 n → IsAscii (signed_decimal n)
ascii_signed (pos n) is = IsAscii-decimal_wide n (omega (arith, ints))
ascii_signed (negsuc n) is = IsAscii-cons 45 (decimal (suc n)) (omega arith) (IsAscii-decimal_wide (suc n) (omega (arith, ints)))

pub decimal_characters : (n : ℤ) → FitsSigned w128 n → chars (signed_decimal n) ≡ signed_decimal n
decimal_characters n is = chars-IsAscii (signed_decimal n) (ascii_signed n is)
