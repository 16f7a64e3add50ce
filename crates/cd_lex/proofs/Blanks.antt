-- Blanks at the start of a text are read.
use Rattle.std.proofs.Common.{◌≡◌, ℕ, ◌≤◌, Bool, true, false, List, [], ◌∷◌, ◌++◌, length, refl, sym, ap, subst, ◌∙◌, arith}
use Rattle.std.specs.Prelude.{take_while, ◌&&◌, ◌==◌}
use Rattle.std.specs.List.{list_all}
use Rattle.std.specs.Str.{chars, IsUtf8}
use Rattle.std.proofs.lemmas.Bool.{and_parts, ne_eqb}
use Rattle.std.proofs.lemmas.Str.{encodes-chars, length-le-encodes}
use Rattle.std.specs.Prelude.{encode_utf8_all}
use Rattle.cd_syntax.specs.Tokens.{is_blank, bytes}
use Rattle.cd_lex.specs.Inner.Prefixes.{after}
use Rattle.cd_lex.specs.Inner.Reading.{IsReadTo}
use Rattle.cd_lex.proofs.Wording.{taken_and_rest, taken_pass}
use Rattle.cd_lex.proofs.PiecePrefixes.{blank_stands}
use Rattle.cd_lex.proofs.TokenReading.{piece_ends, starts, drops, onward}

-- whether what stands after blanks is joined
abbrev pub joined_past : Bool → List ℕ → Bool
joined_past joined [] = joined
joined_past joined (c ∷ cs) = false

blanks_read : (end : ℕ) (joined : Bool) (blanks new : List ℕ) → list_all is_blank blanks ≡ true
    → bytes (blanks ++ new) ≤ end
    → IsReadTo end joined (blanks ++ new) [] (joined_past joined blanks) new
blanks_read end joined [] new all fits = starts end joined new fits
blanks_read end joined (c ∷ cs) new all fits =
    let parts = and_parts (is_blank c) (list_all is_blank cs) all in
    let text : List ℕ = c ∷ cs ++ new in
    let one = drops end joined text joined text (cs ++ new) (starts end joined text fits)
    (blank_stands c (cs ++ new) parts.0) in
    subst (λ next. IsReadTo end joined text [] next new) (never cs)
    (onward end joined text false (joined_past false cs) (cs ++ new) new one
    (blanks_read end false cs new parts.1 one.fits))
  where
    never : (cs : List ℕ) → joined_past false cs ≡ false
    never [] = refl
    never (c ∷ cs) = refl

-- whether blanks are none, as their bytes say
pub past_bytes : (joined : Bool) (blanks : List ℕ) → IsUtf8 blanks
    → (joined && (length blanks == 0)) ≡ joined_past joined (chars blanks)
past_bytes joined blanks utf8 = by (chars blanks) (encodes-chars blanks utf8)
  where
    always : (b : Bool) → (b && true) ≡ b
    always true = refl
    always false = refl

    never : (b : Bool) → (b && false) ≡ false
    never true = refl
    never false = refl

    by : (cs : List ℕ) → encode_utf8_all cs ≡ blanks →
        (joined && (length blanks == 0)) ≡ joined_past joined cs
    by [] is = ap (λ bytes. joined && (length bytes == 0)) (sym is) ∙ always joined
    by (c ∷ cs) is =
        let some = length-le-encodes (c ∷ cs) in
        let same : length (encode_utf8_all (c ∷ cs)) ≡ length blanks = ap length is in
        ap (λ b. joined && b) (ne_eqb (length blanks) 0 (λ none. omega arith)) ∙ never joined

-- what was not joined is not after blanks
pub never_joined : (joined : Bool) (blanks : List ℕ) → joined ≡ false
    → joined ≡ joined_past joined blanks
never_joined joined [] apart = refl
never_joined joined (c ∷ cs) apart = apart

-- the blanks at the start
parted : (text new : List ℕ) → new ≡ after is_blank text → take_while is_blank text ++ new ≡ text
parted text new new_is = ap (λ rest. take_while is_blank text ++ rest) new_is
    ∙ sym (taken_and_rest is_blank text)

pub blanks_skipped : (left blanks new : List ℕ) → blanks ≡ take_while is_blank left
    → new ≡ after is_blank left → (joined next : Bool) → next ≡ joined_past joined blanks
    → (end : ℕ) (first : Bool) (text : List ℕ) → IsReadTo end first text [] joined left
    → IsReadTo end first text [] next new
blanks_skipped left blanks new blanks_are new_is joined next is end first text so =
    let whole = parted left new new_is in
    let fits = subst (λ whole. bytes whole ≤ end) (sym whole) so.fits in
    let read = blanks_read end joined (take_while is_blank left) new
    (taken_pass is_blank left) fits in
    let past = joined_past joined (take_while is_blank left) in
    subst (λ next. IsReadTo end first text [] next new) (sym (is
    ∙ ap (joined_past joined) blanks_are))
    (onward end first text joined past left new so
    (subst (λ whole. IsReadTo end joined whole [] past new) whole read))

pub fewer : (text new : List ℕ) → new ≡ after is_blank text → bytes new ≤ bytes text
fewer text new new_is = (piece_ends (bytes text) text (take_while is_blank text) new
    (omega arith) (sym (parted text new new_is))).1
