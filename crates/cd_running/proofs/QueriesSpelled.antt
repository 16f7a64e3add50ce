-- The text of a query lexes to its tokens.
use Rattle.std.proofs.Common.{◌≡◌, ◌∙◌, refl, sym, ap, ap₂, subst, ℕ, ◌+◌, ◌<◌, ◌^◌, true≢false, true, false, List, [], ◌∷◌, ◌++◌, length, append_assoc, Some, arith}
use Rattle.std.specs.Prelude.{codes, ◌&&◌, if◌then◌else◌}
use Rattle.std.specs.Char.{is_ascii_digit}
use Rattle.std.specs.Fmt.{decimal, digits}
use Rattle.std.specs.List.{list_all}
use Rattle.std.specs.Str.{chars, IsAscii}
use Rattle.std.proofs.Math.Utf8.{encode}
use Rattle.std.proofs.lemmas.Bool.{and_parts, ne_eqb}
use Rattle.std.proofs.lemmas.Fmt.{IsAscii-decimal_wide}
use Rattle.std.proofs.lemmas.Str.{chars-IsAscii, encodes-IsAscii, IsAscii-append}
use Rattle.std.proofs.lemmas.Str.Ascii.{IsAscii-from_all}
use Rattle.cd_syntax.specs.declared.sign.Sign.TheVariants as sign
use Rattle.cd_syntax.specs.Digits.{AreDigits, decimal_value}
use Rattle.cd_syntax.specs.Tokens.{Lexes, bytes}
use Rattle.cd_lex.specs.Inner.SignTable.{first_sign}
use Rattle.cd_print.proofs.Decimals.{decimal_is, are_digits}
use Rattle.cd_replies.specs.Texts.{HasTokens}
use Rattle.cd_running.specs.Workload.{query_text}
use Rattle.cd_running.proofs.QueriesWritten.{tokens_after, query_tokens}
use Rattle.cd_running.proofs.PiecesSpelled.{Piece, AMark, Digits, text_of, tokens_of, stands, is_same, are_right, digits_right, spelled}

-- `[(0--number)*]`
abbrev pieces : List ℕ → List Piece
pieces digits =
    AMark sign.OpenBracket ∷ AMark sign.OpenParenthesis ∷ Digits (codes "0") ∷ AMark sign.To ∷ Digits digits
    ∷ AMark sign.CloseParenthesis ∷ AMark sign.Star ∷ AMark sign.CloseBracket ∷ []

-- `--` stands before digits
up_to : (digits rest : List ℕ) → AreDigits digits → stands true (AMark sign.To) (digits ++ rest) ≡ true
unfolding first_sign
up_to [] rest are = absurd (are.1 refl)
up_to (c ∷ digits) rest are =
    let is_digit = (and_parts (is_ascii_digit c) (list_all is_ascii_digit digits) are.0).0 in
    ap (λ b. is_same (if b && true then Some sign.ToStar else Some sign.To) sign.To && true)
    (ne_eqb 42 c (λ is. true≢false (sym is_digit ∙ ap is_ascii_digit (sym is))))

module _ (n : ℕ) (small : n < 10 ^ 38) where
  pieces_are_right : are_right false (pieces (decimal n)) ≡ true
  unfolding first_sign
  pieces_are_right =
      let are = are_digits n (omega (arith, small)) in
      let value = decimal_is n (omega (arith, small)) in
      ap₂ (λ a b. a && (b && true)) (up_to (decimal n) (codes ")*]") are)
      (digits_right false (decimal n) (codes ")*]") are refl (omega (arith, value, small)))

  -- the digits are as many bytes
  tokens_are : tokens_of 0 (pieces (decimal n)) ≡ query_tokens (length (decimal n)) n
  unfolding encode digits
  tokens_are =
      let size : bytes (decimal n) ≡ length (decimal n) =
      ap length (encodes-IsAscii (decimal n) (IsAscii-decimal_wide n (omega (arith, small)))) in
      let value : decimal_value (decimal n) ≡ n = decimal_is n (omega (arith, small)) in
      let d = length (decimal n) in
      let computed : tokens_of 0 (pieces (decimal n))
      ≡ tokens_after (5 + bytes (decimal n)) (5 + bytes (decimal n) + 1) (5 + bytes (decimal n) + 1 + 1)
      (5 + bytes (decimal n) + 1 + 1 + 1) (decimal_value (decimal n)) = refl in
      computed ∙ ap₂ (λ b v. tokens_after (5 + b) (5 + b + 1) (5 + b + 1 + 1) (5 + b + 1 + 1 + 1) v) size value
      ∙ ap (λ c. tokens_after (5 + d) c (c + 1) (c + 1 + 1) n) (omega arith)
      ∙ ap₂ (λ c e. tokens_after (5 + d) (6 + d) c e n) (omega arith) (omega arith)

-- the text is ASCII, so its characters are its bytes
is_ascii : (n : ℕ) → n < 10 ^ 38 → IsAscii (query_text n)
is_ascii n small =
    IsAscii-append (codes "[(0--" ++ decimal n) (codes ")*]")
    (IsAscii-append (codes "[(0--") (decimal n)
    (IsAscii-from_all (codes "[(0--") (grind arith)) (IsAscii-decimal_wide n (omega (arith, small))))
    (IsAscii-from_all (codes ")*]") (grind arith))

characters_are : (n : ℕ) → n < 10 ^ 38 → text_of (pieces (decimal n)) ≡ chars (query_text n)
characters_are n small = sym
    (chars-IsAscii (query_text n) (is_ascii n small) ∙ append_assoc (codes "[(0--") (decimal n) (codes ")*]"))

pub query_spelled : (n : ℕ) → n < 10 ^ 38 → HasTokens (query_text n) (query_tokens (length (decimal n)) n)
query_spelled n small =
    subst (λ text. Lexes false 0 text (query_tokens (length (decimal n)) n)) (characters_are n small)
    (subst (Lexes false 0 (text_of (pieces (decimal n)))) (tokens_are n small)
    (spelled false 0 (pieces (decimal n)) (pieces_are_right n small)))
