-- Which word is no label.
use Rattle.std.proofs.Common.{◌≡◌, ◌∙◌, ap, sym, refl, true≢false, ℕ, Bool, false, List, [], ◌∷◌}
use Rattle.std.proofs.Common.{bytes_eq}
use Rattle.std.specs.Prelude.{IsTrue, codes, if◌then◌else◌}
use Rattle.std.specs.Str.{chars, IsUtf8}
use Rattle.std.proofs.lemmas.Bool.Decides.{same_from_decides}
use Rattle.std.proofs.lemmas.Slice.Eq.{bytes_eq-Decides}
use Rattle.std.proofs.lemmas.Str.{encodes-chars}
use Rattle.std.proofs.Math.Utf8.{encodes}
use Rattle.cd_syntax.specs.declared.tokens.TokenKind.TheVariants as token
use Rattle.cd_syntax.specs.Name.{is_word, IsLabel}
use Rattle.cd_documents.specs.Terminal.{Label, NoTerminal, terminal}

underscore : (text : List ℕ) → IsUtf8 text → chars text ≡ codes "_" → text ≡ codes "_"
unfolding lib.Utf8.encode
underscore text utf8 is = sym (encodes-chars text utf8) ∙ ap encodes is

underscore_text : chars (95 ∷ []) ≡ codes "_"
unfolding chars
underscore_text = refl

abbrev one : List ℕ
one = 95 ∷ []

-- bytes and characters say alike whether a word is `_`
same_test : (text : List ℕ) → IsUtf8 text → bytes_eq (chars text) (codes "_") ≡ bytes_eq text one
same_test text utf8 =
    let by_characters = bytes_eq-Decides (chars text) (codes "_") in
    let by_bytes = bytes_eq-Decides text one in
    same_from_decides (bytes_eq (chars text) (codes "_")) (bytes_eq text one) by_characters (
      λ same. ap chars (by_bytes.0 same) ∙ underscore_text,
      λ same. by_bytes.1 (underscore text utf8 same),
    )

-- what a word is by that test
pub word_by : (text : List ℕ) → IsUtf8 text → (b : Bool) → bytes_eq text one ≡ b
    → (if b then NoTerminal else Label (chars text)) ≡ terminal (token.Word (chars text))
word_by text utf8 b is =
    ap (λ (b : Bool). if b then NoTerminal else Label (chars text)) (sym (same_test text utf8 ∙ is))

pub label_by : (text : List ℕ) → IsUtf8 text → IsTrue (is_word (chars text))
    → bytes_eq text one ≡ false → IsLabel (chars text)
label_by text utf8 word differ = (
  word,
  λ same.
      let is_one = (bytes_eq-Decides (chars text) (codes "_")).1 same in
      true≢false (sym is_one ∙ same_test text utf8 ∙ differ),
)
