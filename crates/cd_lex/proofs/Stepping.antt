-- One character off the start of a text.
use Rattle.std.proofs.Common.{◌≡◌, ◌∙◌, sym, ap, subst, ◌<◌, ◌≤◌, drop, get_or, ℕ, List, [], ◌∷◌, ◌++◌, length, Option, Some, None, MatchOption, arith, refl, append-nil, append_assoc}
use Rattle.std.specs.Prelude.{encode_utf8, encode_utf8_all}
use Rattle.std.specs.Str.{chars, IsUtf8}
use Rattle.cd_lex.specs.Inner.Prefixes.{BeginsWithOther}
use Rattle.std.proofs.lemmas.Str.{chars_past_char, chars-nil, chars_from_encodes, encodes-chars, encodes-append, chars-append, encode_ascii, byte_from_char}

no_bytes : (bytes : List ℕ) → length bytes ≡ 0 → bytes ≡ []
no_bytes [] is = refl
no_bytes (b ∷ bytes) is = absurd (omega arith)

pub stepped : {S : Type 0} (rest : S → List ℕ) (found : Option ℕ) (s t : S) (text left : List ℕ) → rest s ≡ text → left ≡ rest t → IsUtf8 text
    → MatchOption found ((length (rest s) ≡ 0) × (t ≡ s)) (λ c. rest s ≡ encode_utf8 c ++ rest t)
    → MatchOption found (chars text ≡ []) (λ c. chars text ≡ c ∷ chars left)
stepped rest None s t text left from to utf8 is =
    let none : chars (rest s) ≡ [] = ap chars (no_bytes (rest s) is.0) ∙ chars-nil in
    ap chars (sym from) ∙ none
stepped rest (Some c) s t text left from to utf8 is =
    chars_past_char text left c utf8 (sym from ∙ is ∙ ap (λ later. encode_utf8 c ++ later) (sym to))

-- one character more at the end
pushed : (old new view : List ℕ) (c : ℕ) → IsUtf8 old → IsUtf8 new → new ≡ old ++ encode_utf8 c
    → chars old ≡ view → chars new ≡ view ++ c ∷ []
pushed old new view c before after is viewed = sym (chars_from_encodes (view ++ c ∷ []) new after
    (encodes-append view (c ∷ [])
    ∙ ap (λ prefix. prefix ++ encode_utf8_all (c ∷ [])) (ap encode_utf8_all (sym viewed) ∙ encodes-chars old before)
    ∙ ap (λ last. old ++ last) (append-nil (encode_utf8 c))
    ∙ sym is))

-- and a text after it
pub extended : (old mid new part : List ℕ) (c : ℕ) → IsUtf8 old → IsUtf8 mid
    → mid ≡ old ++ encode_utf8 c → new ≡ mid ++ part
    → chars new ≡ chars old ++ (c ∷ chars part)
extended old mid new part c before after mid_is is =
    ap chars is ∙ chars-append mid part after
    ∙ ap (λ prefix. prefix ++ chars part) (pushed old mid (chars old) c before after mid_is refl)
    ∙ append_assoc (chars old) (c ∷ []) (chars part)

-- a character of one byte stands first
pub stands_first : (text rest : List ℕ) (c : ℕ) → IsUtf8 text → c < 128 → 1 ≤ length text
    → get_or text 0 0 ≡ c → rest ≡ drop 1 text → chars text ≡ c ∷ chars rest
stands_first [] rest c utf8 ascii some is rest_is = absurd (omega arith)
stands_first (b ∷ bytes) rest c utf8 ascii some is rest_is =
    let parts : b ∷ bytes ≡ encode_utf8 c ++ rest = ap (λ b. b ∷ bytes) is
    ∙ ap (λ rest. c ∷ rest) (sym rest_is) ∙ ap (λ prefix. prefix ++ rest)
    (sym (encode_ascii c ascii)) in
    chars_past_char (b ∷ bytes) rest c utf8 parts

-- or another one does
pub differs_first : (text : List ℕ) (c : ℕ) → IsUtf8 text → c < 128 → (get_or text 0 0 ≡ c → ⊥)
    → BeginsWithOther c (chars text)
differs_first text c utf8 ascii differs = by (chars text) (encodes-chars text utf8)
  where
    by : (cs : List ℕ) → encode_utf8_all cs ≡ text → BeginsWithOther c cs
    by [] is = tt
    by (d ∷ ds) is = λ same.
        let byte = byte_from_char text (encode_utf8_all ds) d (sym is)
        (subst (λ d. d < 128) (sym same) ascii) in
        differs (byte ∙ same)

pub none_first : (text : List ℕ) (c : ℕ) → length text ≡ 0 → BeginsWithOther c (chars text)
none_first text c none = subst (BeginsWithOther c) (sym (ap chars (no_bytes text none)
    ∙ chars-nil)) tt
