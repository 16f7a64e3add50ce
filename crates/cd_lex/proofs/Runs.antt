-- The bytes at the start of a text that belong to a run are those of the characters there that do.
use Rattle.std.proofs.Common.{◌≡◌, ◌∙◌, sym, ap, subst, refl, ℕ, suc, ◌<◌, ◌≤◌, ◌⊎◌, inl, inr, Bool, true, false, List, [], ◌∷◌, ◌++◌, length, drop, get_or, arith, append-nil, encode_utf8}
use Rattle.std.specs.Prelude.{encode_utf8_all, take_while, not, ◌==◌, ◌&&◌}
use Rattle.std.specs.List.{list_all, prefix_len}
use Rattle.std.specs.Int.{is_in_range}
use Rattle.std.specs.Str.{chars, IsUtf8, IsCharBoundary}
use Rattle.std.proofs.Math.Utf8.{scalars}
use Rattle.std.proofs.Math.Dec.{leb}
use Rattle.std.proofs.lemmas.Bool.{and_parts, and_from, cases_lt, ne_eqb, lt-leb}
use Rattle.std.proofs.lemmas.List.Folds.{length-prefix_len}
use Rattle.std.proofs.lemmas.List.Sums.{prefix_len-le-length}
use Rattle.std.proofs.lemmas.Str.{encode_ascii, byte_from_char, char_from_byte, inside_one, encodes-chars, chars-encodes, scalars-chars, IsCharBoundary-from_drop}
use Rattle.cd_syntax.specs.Name.{goes_on_word}
use Rattle.cd_syntax.specs.Tokens.{is_blank}
use Rattle.cd_lex.specs.declared.run.Run.{Run}
use Rattle.cd_lex.specs.declared.run.Run.TheVariants as run
use Rattle.cd_lex.specs.Inner.Prefixes.{after}
use Rattle.cd_lex.specs.Inner.Runs.{belongs, HasAsciiQuote, EndsRun}
use Rattle.cd_lex.proofs.Wording.{neither, taken_first, taken_none, left}
use Rattle.cd_lex.proofs.Prefixing.{after_one, after_none}

-- characters at the start and those after them are characters
scalars_apart : (p : ℕ → Bool) (cs : List ℕ) → scalars cs ≡ true
    → (scalars (take_while p cs) ≡ true) × (scalars (after p cs) ≡ true)
scalars_apart p [] are = (refl, refl)
scalars_apart p (c ∷ cs) are = by (p c) refl (λ are. scalars_apart p cs are)
  where
    by : (b : Bool) → p c ≡ b → (scalars cs ≡ true → (scalars (take_while p cs) ≡ true)
        × (scalars (after p cs) ≡ true))
        → (scalars (take_while p (c ∷ cs)) ≡ true) × (scalars (after p (c ∷ cs)) ≡ true)
    by true is on =
        let parts = and_parts _ (scalars cs) are in
        let rest = on parts.1 in (
          ap scalars (taken_first p c cs is) ∙ and_from _
              (scalars (take_while p cs)) parts.0 rest.0,
          ap scalars (after_one p c cs is) ∙ rest.1,
        )
    by false is on =
        let none = taken_none p c cs is in
        (ap scalars none, ap scalars (after_none p (c ∷ cs) none) ∙ are)

-- no word and no blank goes on beyond ASCII, and a quoted text does
range_past : (lo hi c : ℕ) → hi < c → is_in_range lo hi c ≡ false
range_past lo hi c past = by (leb lo c) (lt-leb c hi past)
  where
    by : (b : Bool) → leb c hi ≡ false → (b && leb c hi) ≡ false
    by true none = none
    by false none = refl

word_past : (c : ℕ) → 128 ≤ c → goes_on_word c ≡ false
word_past c past = neither _ _
    (neither _ _ (neither _ _ (range_past 48 57 c (omega arith))
    (range_past 65 90 c (omega arith))) (range_past 97 122 c (omega arith)))
    (ne_eqb c 95 (λ e. omega arith))

blank_past : (c : ℕ) → 128 ≤ c → is_blank c ≡ false
blank_past c past = neither _ _
    (neither _ _ (neither _ _ (ne_eqb c 32 (λ e. omega arith)) (ne_eqb c 9 (λ e. omega arith)))
    (ne_eqb c 10 (λ e. omega arith)))
    (ne_eqb c 13 (λ e. omega arith))

quoted_past : (quote c : ℕ) → quote < 128 → 128 ≤ c → belongs (run.Quoted quote) c ≡ true
quoted_past quote c ascii past = and_from (not (c == quote)) (not (c == 92))
    (ap not (ne_eqb c quote (λ e. omega arith))) (ap not (ne_eqb c 92 (λ e. omega arith)))

pub beyond : (is : Run) → HasAsciiQuote is → (c d : ℕ) → 128 ≤ c → 128 ≤ d
    → belongs is c ≡ belongs is d
beyond run.Word ascii c d past also = word_past c past ∙ sym (word_past d also)
beyond run.Blank ascii c d past also = blank_past c past ∙ sym (blank_past d also)
beyond (run.Quoted quote) ascii c d past also = quoted_past quote c ascii past
    ∙ sym (quoted_past quote d ascii also)

-- what is left begins with what ends the run
pub ends : (is : Run) (text : List ℕ) → EndsRun is (after (belongs is) text)
ends is text = left (belongs is) (EndsRun is) tt (λ c cs no. no) text

-- a test that is the same at all that is not ASCII
module _ (p : ℕ → Bool) (beyond : (c d : ℕ) → 128 ≤ c → 128 ≤ d → p c ≡ p d) where
  -- the bytes of a character that passes
  byte_passes : (c k : ℕ) → p c ≡ true → k < length (encode_utf8 c)
      → p (get_or (encode_utf8 c) k 0) ≡ true
  byte_passes c k is within = by (cases_lt (get_or (encode_utf8 c) k 0) 128) (cases_lt c 128)
    where
      by : (get_or (encode_utf8 c) k 0 < 128) ⊎ (128 ≤ get_or (encode_utf8 c) k 0)
          → (c < 128) ⊎ (128 ≤ c) → p (get_or (encode_utf8 c) k 0) ≡ true
      by (inl ascii) either =
          ap p (sym (inside_one c [] (encode_utf8 c) k
          (sym (append-nil (encode_utf8 c))) within ascii)) ∙ is
      by (inr past) (inl ascii) =
          let bytes : get_or (encode_utf8 c) k 0 ≡ get_or (c ∷ []) k 0 = ap
          (λ bytes. get_or bytes k 0) (encode_ascii c ascii) in
          let one : k < 1 = subst (λ bytes. k < length bytes) (encode_ascii c ascii) within in
          let first : k ≡ 0 = omega arith in
          let same : get_or (encode_utf8 c) k 0 ≡ c = bytes ∙ ap (λ k. get_or (c ∷ []) k 0) first in
          ap p same ∙ is
      by (inr past) (inr wide) = beyond _ c past wide ∙ is

  bytes_pass : (c : ℕ) → p c ≡ true → list_all p (encode_utf8 c) ≡ true
  bytes_pass c is = each (encode_utf8 c) (λ k within. byte_passes c k is within)
    where
      each : (bytes : List ℕ) → ((k : ℕ) → k < length bytes → p (get_or bytes k 0) ≡ true)
          → list_all p bytes ≡ true
      each [] all = refl
      each (b ∷ bytes) all = and_from (p b) (list_all p bytes) (all 0 (omega arith))
          (each bytes (λ k within. all (suc k) (omega arith)))

  -- the first byte of one that does not
  byte_fails : (c : ℕ) (rest : List ℕ) → p c ≡ false → (bytes : List ℕ)
      → bytes ≡ encode_utf8 c ++ rest → take_while p bytes ≡ []
  byte_fails c rest fails [] is = refl
  byte_fails c rest fails (b ∷ bytes) is = taken_none p b bytes
      (by (cases_lt b 128) (cases_lt c 128))
    where
      by : (b < 128) ⊎ (128 ≤ b) → (c < 128) ⊎ (128 ≤ c) → p b ≡ false
      by (inl ascii) either = ap p (sym (char_from_byte (b ∷ bytes) rest c is ascii
          (omega arith))) ∙ fails
      by (inr past) (inl ascii) = ap p (byte_from_char (b ∷ bytes) rest c is ascii) ∙ fails
      by (inr past) (inr wide) = beyond b c past wide ∙ fails

  -- what passes whole, before more
  passed : (xs ys : List ℕ) → list_all p xs ≡ true →
      (take_while p (xs ++ ys) ≡ xs ++ take_while p ys) × (after p (xs ++ ys) ≡ after p ys)
  passed [] ys all = (refl, refl)
  passed (x ∷ xs) ys all =
      let parts = and_parts (p x) (list_all p xs) all in
      let rest = passed xs ys parts.1 in (
        taken_first p x (xs ++ ys) parts.0 ∙ ap (λ xs. x ∷ xs) rest.0,
        after_one p x
            (xs ++ ys) parts.0 ∙ rest.1,
      )

  -- of the bytes of characters, those pass whose characters do
  encoded : (cs : List ℕ) → (take_while p (encode_utf8_all cs) ≡ encode_utf8_all
      (take_while p cs)) × (after p (encode_utf8_all cs) ≡ encode_utf8_all (after p cs))
  encoded [] = (refl, refl)
  encoded (c ∷ cs) = by (p c) refl (encoded cs)
    where
      by : (b : Bool) → p c ≡ b → (take_while p (encode_utf8_all cs) ≡ encode_utf8_all
          (take_while p cs)) × (after p (encode_utf8_all cs) ≡ encode_utf8_all (after p cs))
          → (take_while p (encode_utf8_all (c ∷ cs)) ≡ encode_utf8_all (take_while p (c ∷ cs)))
          × (after p (encode_utf8_all (c ∷ cs)) ≡ encode_utf8_all (after p (c ∷ cs)))
      by true is rest =
          let prefix = passed (encode_utf8 c) (encode_utf8_all cs) (bytes_pass c is) in (
            prefix.0 ∙ ap (λ bytes. encode_utf8 c ++ bytes) rest.0
                ∙ ap encode_utf8_all (sym (taken_first p c cs is)),
            prefix.1 ∙ rest.1 ∙ ap encode_utf8_all (sym (after_one p c cs is)),
          )
      by false is rest =
          let none = byte_fails c (encode_utf8_all cs) is (encode_utf8_all (c ∷ cs)) refl in
          let none_of = taken_none p c cs is in (
            none ∙ ap encode_utf8_all (sym none_of),
            after_none p (encode_utf8_all (c ∷ cs)) none ∙ ap encode_utf8_all
                (sym (after_none p (c ∷ cs) none_of)),
          )

  module _ (text : List ℕ) (utf8 : IsUtf8 text) where
    apart : (scalars (take_while p (chars text)) ≡ true) × (scalars (after p (chars text)) ≡ true)
    apart = scalars_apart p (chars text) (scalars-chars text utf8)

    taken : take_while p text ≡ encode_utf8_all (take_while p (chars text))
    taken = ap (take_while p) (sym (encodes-chars text utf8)) ∙ (encoded (chars text)).0

    rest : drop (prefix_len p text) text ≡ encode_utf8_all (after p (chars text))
    rest = ap (λ n. drop n text) (sym (length-prefix_len p text))
        ∙ ap (after p) (sym (encodes-chars text utf8)) ∙ (encoded (chars text)).1

    pub boundary : IsCharBoundary text (prefix_len p text)
    boundary = IsCharBoundary-from_drop text (prefix_len p text) (prefix_len-le-length p text)
        (after p (chars text), (apart.1, sym rest))

    pub run_chars : chars (take_while p text) ≡ take_while p (chars text)
    run_chars = ap chars taken ∙ chars-encodes (take_while p (chars text)) apart.0

    pub rest_chars : chars (drop (prefix_len p text) text) ≡ after p (chars text)
    rest_chars = ap chars rest ∙ chars-encodes (after p (chars text)) apart.1
