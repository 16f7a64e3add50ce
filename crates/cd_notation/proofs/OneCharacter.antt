-- A text of one character.
use Rattle.std.proofs.Common.{◌≡◌, ◌∙◌, ap, sym, arith, ℕ, List, [], ◌∷◌, ◌++◌, length, encode_utf8}
use Rattle.std.proofs.Common.{Some, None}
use Rattle.std.specs.Str.{chars, IsUtf8}
use Rattle.std.proofs.lemmas.Str.{chars_past_char, IsUtf8-past_char, chars-nil}
use Rattle.cd_syntax.specs.Name.{only}

pub only_one : (text later : List ℕ) (c : ℕ) → IsUtf8 text → text ≡ encode_utf8 c ++ later
    → length later ≡ 0 → Some c ≡ only (chars text)
only_one text [] c utf8 is none =
    sym (ap only (chars_past_char text [] c utf8 is) ∙ ap (λ (cs : List ℕ). only (c ∷ cs)) chars-nil)
only_one text (byte ∷ later) c utf8 is none = absurd (omega (arith, none))

pub not_only : (text later rest : List ℕ) (c d : ℕ) → IsUtf8 text → text ≡ encode_utf8 c ++ later
    → later ≡ encode_utf8 d ++ rest → None ≡ only (chars text)
not_only text later rest c d utf8 is then =
    let second = chars_past_char later rest d (IsUtf8-past_char text later c utf8 is) then in
    sym (ap only (chars_past_char text later c utf8 is) ∙ ap (λ (cs : List ℕ). only (c ∷ cs)) second)
