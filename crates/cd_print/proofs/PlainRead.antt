-- Values without parts are read back.
use Rattle.std.proofs.Common.{◌≡◌, ℕ, suc, ◌^◌, ◌<◌, ◌==◌, Bool, true, false, ◌||◌, ℤ, pos, negsuc, List, [], ◌∷◌, ◌++◌, refl, sym, subst, true≢false, arith}
use Rattle.std.specs.Prelude.{codes, neg_ℤ}
use Rattle.std.specs.Fmt.{decimal, signed_decimal}
use Rattle.std.specs.Char.{IsScalar, is_ascii_digit}
use Rattle.std.specs.List.{list_all}
use Rattle.std.specs.Int.{is_in_range}
use Rattle.std.proofs.lemmas.Int.{ints}
use Rattle.std.proofs.lemmas.Bool.{and_parts}
use Rattle.std.proofs.lemmas.Bool.Decides.{nat_tests}
use Rattle.cd_syntax.specs.Digits.{AreDigits, BeginsWithNoDigit, decimal_value}
use Rattle.cd_syntax.specs.Integer.{IsInteger}
use Rattle.cd_syntax.specs.Name.{Name, IsLabel}
use Rattle.cd_syntax.specs.Numerals as numerals
use Rattle.cd_syntax.specs.Numerals.{IsNumeral}
use Rattle.cd_syntax.specs.Quotes as quotes
use Rattle.cd_syntax.specs.Tokens as tokens
use Rattle.cd_syntax.specs.Tokens.{EndsWord, IsLexemeOf}
use Rattle.cd_syntax.specs.Tokens.{at}
use Rattle.cd_syntax.specs.declared.tokens.Span.{Span}
use Rattle.cd_syntax.specs.declared.tokens.Token.{Token}
use Rattle.cd_syntax.specs.declared.tokens.TokenKind.{TokenKind}
use Rattle.cd_syntax.specs.declared.tokens.TokenKind.TheVariants as token
use Rattle.cd_model.specs.AllOf.{AllOf}
use Rattle.cd_model.specs.Canonical.{single_quoted, double_quoted}
use Rattle.cd_model.specs.Thing.{Integer, Character, Atom}
use Rattle.cd_documents.specs.Document as document
use Rattle.cd_documents.specs.Document.{IsDocument, the_nil, characters_before}
use Rattle.cd_print.proofs.Decimals.{decimal_is, are_digits}
use Rattle.cd_print.proofs.OneSign.{Starts}
use Rattle.cd_print.proofs.QuotedBack.{quoted_back}
use Rattle.cd_print.proofs.ReadsOn.{Reads, PrintedAs, token_then, nothing_more}

-- what ends a word is no digit
no_digit : (rest : List ℕ) → EndsWord rest → BeginsWithNoDigit rest
no_digit [] ends = tt
no_digit (c ∷ rest) ends = by_test (is_in_range 48 57 c) refl (is_in_range 65 90 c) (is_in_range 97 122 c) (c == 95) ends
  where
    by_test : (digit : Bool) → is_in_range 48 57 c ≡ digit → (upper lower line : Bool) → (((digit || upper) || lower) || line) ≡ false → is_ascii_digit c ≡ false
    by_test true test upper lower line not = absurd (true≢false not)
    by_test false test upper lower line not = test

-- a number in decimal digits, before what ends a word
numeral : (n : ℕ) → n < 10 ^ 64 → (rest : List ℕ) → EndsWord rest → IsNumeral (decimal n) rest (decimal_value (decimal n))
numeral n small rest ends = numerals.decimal (decimal n) rest (are_digits n small) (no_digit rest ends)

module _ (fact : List Token → Type 0) where
  -- one token is the text
  one_token : (kind : TokenKind) (written : List ℕ) → ((rest : List ℕ) → Starts (written ++ rest))
      → ((rest : List ℕ) → EndsWord rest → IsLexemeOf false written rest kind) → tokens.joins kind ≡ true
      → ((span : Span) → fact (at kind span ∷ [])) → PrintedAs written fact
  one_token kind written starts writes joins is = record {
    starts = starts;
    reads = λ rest more ends lexes from.
        token_then more false kind written rest (λ tokens. tokens ≡ []) fact (writes rest ends)
        (λ at. subst (λ joined. Reads joined at rest more (λ tokens. tokens ≡ [])) (sym joins) (nothing_more more rest (λ tokens. tokens ≡ []) lexes refl at))
        (λ span tokens none. subst (λ all. fact (at kind span ∷ all)) (sym none) (is span)) from;
  }

first_digit : (digits : List ℕ) → AreDigits digits → (rest : List ℕ) → Starts (digits ++ rest)
first_digit [] are rest = absurd (are.1 refl)
first_digit (c ∷ digits) are rest =
    let digit = (and_parts (is_ascii_digit c) (list_all is_ascii_digit digits) are.0).0 in
    record { no_equal = grind (arith, nat_tests); no_question = grind (arith, nat_tests); no_star = grind (arith, nat_tests) }

module _ (depth : ℕ) where
  pub integer_back : (n : ℤ) → IsInteger n → PrintedAs (signed_decimal n) (λ tokens. IsDocument depth tokens (Integer n))
  integer_back (pos n) is =
      let small : n < 10 ^ 64 = omega (arith, ints) in
      let value = decimal_is n small in
      one_token (λ tokens. IsDocument depth tokens (Integer (pos n))) (token.Int (pos n)) (decimal n)
      (first_digit (decimal n) (are_digits n small))
      (λ rest ends. subst (λ m. IsLexemeOf false (decimal n) rest (token.Int (pos m))) value
      (tokens.number (decimal n) rest (decimal_value (decimal n)) (numeral n small rest ends) (subst (λ m. IsInteger (pos m)) (sym value) is)))
      refl (λ span. document.number depth (pos n) span)
  integer_back (negsuc n) is =
      let small : suc n < 10 ^ 64 = omega (arith, ints) in
      let value = decimal_is (suc n) small in
      one_token (λ tokens. IsDocument depth tokens (Integer (negsuc n))) (token.Int (negsuc n)) (45 ∷ decimal (suc n))
      (λ rest. record { no_equal = refl; no_question = refl; no_star = refl })
      (λ rest ends. subst (λ m. IsLexemeOf false (45 ∷ decimal (suc n)) rest (token.Int (neg_ℤ (pos m)))) value
      (tokens.negative (decimal (suc n)) rest (decimal_value (decimal (suc n))) refl (numeral (suc n) small rest ends) (subst (λ m. IsInteger (neg_ℤ (pos m))) (sym value) is)))
      refl (λ span. document.number depth (negsuc n) span)

  pub character_back : (c : ℕ) → IsScalar c → PrintedAs (single_quoted (c ∷ [])) (λ tokens. IsDocument depth tokens (Character c))
  character_back c is =
      one_token (λ tokens. IsDocument depth tokens (Character c)) (token.Chars (c ∷ [])) (single_quoted (c ∷ []))
      (λ rest. record { no_equal = refl; no_question = refl; no_star = refl })
      (λ rest ends. tokens.chars _ (c ∷ []) rest (quoted_back 39 quotes.apostrophe (c ∷ []) (is, tt)))
      refl (λ span. document.character depth c span)

  pub characters_back : (cs : List ℕ) → AllOf IsScalar cs → PrintedAs (double_quoted cs) (λ tokens. IsDocument depth tokens (characters_before cs the_nil))
  characters_back cs all =
      one_token (λ tokens. IsDocument depth tokens (characters_before cs the_nil)) (token.Text cs) (double_quoted cs)
      (λ rest. record { no_equal = refl; no_question = refl; no_star = refl })
      (λ rest ends. tokens.text _ cs rest (quoted_back 34 quotes.quote cs all))
      refl (λ span. document.text depth cs span)

  pub atom_back : (name : Name) → IsLabel name → PrintedAs (codes "`" ++ name) (λ tokens. IsDocument depth tokens (Atom name))
  atom_back name is =
      one_token (λ tokens. IsDocument depth tokens (Atom name)) (token.Atom name) (96 ∷ name)
      (λ rest. record { no_equal = refl; no_question = refl; no_star = refl })
      (λ rest ends. tokens.atom name rest is ends)
      refl (λ span. document.atom depth name span)
