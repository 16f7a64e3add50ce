-- A table of ASCII words has under the bytes of a text what it has under its characters.
use Rattle.std.proofs.Common.{◌≡◌, ◌∙◌, sym, ap, refl, Bool, true, ℕ, List, [], ◌∷◌, inl, inr}
use Rattle.std.specs.Prelude.{nat_lt, bytes_eq, cond, Some}
use Rattle.std.specs.List.{list_all}
use Rattle.std.specs.Str.{chars, IsUtf8, IsAscii}
use Rattle.std.proofs.lemmas.Bool.{and_parts, ltb-true, true≢false, false_from_ne_true, cases_Bool}
use Rattle.std.proofs.lemmas.Slice.Eq.{bytes_eq-Decides}
use Rattle.std.proofs.lemmas.Str.{chars-IsAscii, encodes-IsAscii, encodes-chars}
use Rattle.std.proofs.lemmas.Str.Ascii.{IsAscii-nil, IsAscii-cons}
use Rattle.std.proofs.Math.Utf8.{encodes}
use Rattle.cd_tables.specs.Rows.{row_of}

-- all bytes are ASCII
abbrev pub ascii : List ℕ → Bool
ascii bytes = list_all (λ byte. nat_lt byte 128) bytes

-- all words are
abbrev pub ascii_words : {V : Type 0} → List (List ℕ × V) → Bool
ascii_words rows = list_all (λ row. ascii row.0) rows

is_ascii : (bytes : List ℕ) → ascii bytes ≡ true → IsAscii bytes
is_ascii [] h = IsAscii-nil
is_ascii (byte ∷ bytes) h =
    let both = and_parts (nat_lt byte 128) (ascii bytes) h in
    IsAscii-cons byte bytes (ltb-true byte 128 both.0) (is_ascii bytes both.1)

-- a text is such a word where its characters are
same_in_characters : (text word : List ℕ) → IsUtf8 text → IsAscii word → bytes_eq text word ≡ bytes_eq (chars text) word
same_in_characters text word utf8 low = elim (cases_Bool (bytes_eq text word)) [
  | inl same ↦
      let is : text ≡ word = (bytes_eq-Decides text word).0 same in
      same ∙ sym ((bytes_eq-Decides (chars text) word).1 (ap chars is ∙ chars-IsAscii word low))
  | inr other ↦ other ∙ sym (false_from_ne_true (bytes_eq (chars text) word) (λ same.
      let is : chars text ≡ word = (bytes_eq-Decides (chars text) word).0 same in
      let text_is : text ≡ word = sym (encodes-chars text utf8) ∙ ap encodes is ∙ encodes-IsAscii word low in
      true≢false (sym ((bytes_eq-Decides text word).1 text_is) ∙ other)))
]

-- a table of such words has under a text what it has under its characters
pub by_characters : {V : Type 0} (rows : List (List ℕ × V)) → ascii_words rows ≡ true → (text : List ℕ) → IsUtf8 text
    → row_of rows text ≡ row_of rows (chars text)
unfolding row_of
by_characters [] low text utf8 = refl
by_characters (row ∷ rows) low text utf8 =
    let both = and_parts (ascii row.0) (ascii_words rows) low in
    let here = same_in_characters text row.0 utf8 (is_ascii row.0 both.0) in
    λ i. cond (here i) (Some row.1) (by_characters rows both.1 text utf8 i)
