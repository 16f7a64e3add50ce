-- Characters that are written between quotes are read back.
use Rattle.std.proofs.Common.{◌≡◌, ℕ, ◌<◌, ◌==◌, Bool, true, false, ◌||◌, List, [], ◌∷◌, ◌++◌, refl, sym, subst, true≢false, arith, if◌then◌else◌, nat_lt, append_assoc}
use Rattle.std.specs.Prelude.{codes, ◌≢◌}
use Rattle.std.specs.Fmt.{decimal}
use Rattle.std.specs.Char.{IsScalar}
use Rattle.std.specs.List.{join_by, flat_map}
use Rattle.std.proofs.lemmas.Bool.Decides.{nat_tests}
use Rattle.cd_syntax.specs.Digits.{decimal_value}
use Rattle.cd_syntax.specs.Quotes as quotes
use Rattle.cd_syntax.specs.Quotes.{Quotes, IsEscapeLetter, IsCode}
use Rattle.cd_model.specs.AllOf.{AllOf}
use Rattle.cd_model.specs.Canonical.{escaped}
use Rattle.cd_print.proofs.Decimals.{decimal_is, are_digits, is_short}

module _ (quote : ℕ) (stands : IsEscapeLetter quote quote) where
  -- a character with a backslash before it
  itself : (c : ℕ) → ((c == 92) || (c == quote)) ≡ true → IsEscapeLetter c c
  itself c is = by_test (c == 92) refl (c == quote) refl is
    where
      by_test : (test : Bool) → (c == 92) ≡ test → (other : Bool) → (c == quote) ≡ other → (test || other) ≡ true → IsEscapeLetter c c
      by_test true first other second is =
          let same : c ≡ 92 = grind (arith, nat_tests) in subst (λ n. IsEscapeLetter n n) (sym same) quotes.backslash
      by_test false first true second is =
          let same : c ≡ quote = grind (arith, nat_tests) in subst (λ n. IsEscapeLetter n n) (sym same) stands
      by_test false first false second is = absurd (true≢false (sym is))

  code_back : (c : ℕ) (written characters : List ℕ) → IsScalar c → c < 1000 → Quotes quote written characters
      → Quotes quote ((codes "\\" ++ decimal c ++ codes ";") ++ written) (c ∷ characters)
  code_back c written characters scalar small is =
      let value = decimal_is c (omega arith) in
      let code : IsCode (decimal c) = record { digits = are_digits c (omega arith); few = is_short c small; scalar = subst IsScalar (sym value) scalar } in
      subst (λ n. Quotes quote ((codes "\\" ++ decimal c ++ codes ";") ++ written) (n ∷ characters)) value
      (subst (λ t. Quotes quote (92 ∷ t) (decimal_value (decimal c) ∷ characters)) (sym (append_assoc (decimal c) (59 ∷ []) written))
      (quotes.code (decimal c) written characters code is))

  one_back : (c : ℕ) (written characters : List ℕ) → IsScalar c → Quotes quote written characters
      → Quotes quote (escaped quote c ++ written) (c ∷ characters)
  one_back c written characters scalar is = by_quote ((c == 92) || (c == quote)) refl
    where
      known : (letter meant : ℕ) → (c == meant) ≡ true → IsEscapeLetter letter meant → Quotes quote (92 ∷ letter ∷ written) (c ∷ characters)
      known letter meant test stands_for =
          let same : c ≡ meant = grind (arith, nat_tests) in
          subst (λ n. Quotes quote (92 ∷ letter ∷ written) (n ∷ characters)) (sym same) (quotes.letter letter meant written characters stands_for is)

      small : (less : Bool) → nat_lt c 32 ≡ less → (last : Bool) → (c == 127) ≡ last → (less || last) ≡ true → c < 1000
      small true test last is_last either = grind (arith, nat_tests)
      small false test true is_last either = grind (arith, nat_tests)
      small false test false is_last either = absurd (true≢false (sym either))

      no_backslash : (first : Bool) → (c == 92) ≡ first → (other : Bool) → (first || other) ≡ false → c ≢ 92
      no_backslash true test other neither = absurd (true≢false neither)
      no_backslash false test other neither = λ same. grind (arith, nat_tests)

      no_quote : (first other : Bool) → (c == quote) ≡ other → (first || other) ≡ false → c ≢ quote
      no_quote true other test neither = absurd (true≢false neither)
      no_quote false true test neither = absurd (true≢false neither)
      no_quote false false test neither = λ same. grind (arith, nat_tests)

      by_code : (test : Bool) → (nat_lt c 32 || (c == 127)) ≡ test → ((c == 92) || (c == quote)) ≡ false
          → Quotes quote ((if test then codes "\\" ++ decimal c ++ codes ";" else c ∷ []) ++ written) (c ∷ characters)
      by_code true test other = code_back c written characters scalar (small (nat_lt c 32) refl (c == 127) refl test) is
      by_code false test other =
          quotes.itself c written characters (no_quote (c == 92) (c == quote) refl other) (no_backslash (c == 92) refl (c == quote) other) is

      by_tab : (test : Bool) → (c == 9) ≡ test → ((c == 92) || (c == quote)) ≡ false
          → Quotes quote ((if test then codes "\\t" else (if nat_lt c 32 || (c == 127) then codes "\\" ++ decimal c ++ codes ";" else c ∷ [])) ++ written) (c ∷ characters)
      by_tab true test other = known 116 9 test quotes.tab
      by_tab false test other = by_code (nat_lt c 32 || (c == 127)) refl other

      by_return : (test : Bool) → (c == 13) ≡ test → ((c == 92) || (c == quote)) ≡ false
          → Quotes quote ((if test then codes "\\r" else (if c == 9 then codes "\\t" else (if nat_lt c 32 || (c == 127) then codes "\\" ++ decimal c ++ codes ";" else c ∷ []))) ++ written) (c ∷ characters)
      by_return true test other = known 114 13 test quotes.carriage_return
      by_return false test other = by_tab (c == 9) refl other

      by_feed : (test : Bool) → (c == 10) ≡ test → ((c == 92) || (c == quote)) ≡ false
          → Quotes quote ((if test then codes "\\n" else (if c == 13 then codes "\\r" else (if c == 9 then codes "\\t"
          else (if nat_lt c 32 || (c == 127) then codes "\\" ++ decimal c ++ codes ";" else c ∷ [])))) ++ written) (c ∷ characters)
      by_feed true test other = known 110 10 test quotes.line_feed
      by_feed false test other = by_return (c == 13) refl other

      by_quote : (test : Bool) → ((c == 92) || (c == quote)) ≡ test
          → Quotes quote ((if test then 92 ∷ c ∷ [] else (if c == 10 then codes "\\n" else (if c == 13 then codes "\\r" else (if c == 9 then codes "\\t"
          else (if nat_lt c 32 || (c == 127) then codes "\\" ++ decimal c ++ codes ";" else c ∷ []))))) ++ written) (c ∷ characters)
      by_quote true test = quotes.letter c c written characters (itself c test) is
      by_quote false test = by_feed (c == 10) refl test

  all_back : (characters : List ℕ) → AllOf IsScalar characters → Quotes quote (flat_map (escaped quote) characters) characters
  all_back [] all = quotes.nothing
  all_back (c ∷ characters) all = one_back c (flat_map (escaped quote) characters) characters all.0 (all_back characters all.1)

  joined_is : (characters : List ℕ) → join_by (escaped quote) [] characters ≡ flat_map (escaped quote) characters
  joined_is [] = refl
  joined_is (c ∷ characters) = refl

  pub quoted_back : (characters : List ℕ) → AllOf IsScalar characters → Quotes quote (join_by (escaped quote) [] characters) characters
  quoted_back characters all = subst (λ t. Quotes quote t characters) (sym (joined_is characters)) (all_back characters all)
