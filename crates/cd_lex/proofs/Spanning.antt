-- The tokens of a text stand in it one after the other, and each is what the characters of its span write.
use Rattle.std.proofs.Common.{◌≡◌, ℕ, ◌+◌, ◌<◌, ◌≤◌, Bool, false, List, [], ◌∷◌, ◌++◌, sym, ap, ◌∙◌, length, arith}
use Rattle.std.proofs.lemmas.List.{append_assoc}
use Rattle.std.proofs.lemmas.Str.{length-le-encodes}
use Rattle.cd_syntax.specs.declared.tokens.Token.{Token}
use Rattle.cd_syntax.specs.declared.tokens.TokenKind.{TokenKind}
use Rattle.cd_syntax.specs.Signs.{characters}
use Rattle.cd_syntax.specs.Tokens.{bytes, joins, IsLexemeOf, Lexes, word as writes_word, number as writes_number, negative as writes_negative, chars as writes_chars, text as writes_text, atom as writes_atom, sign as writes_sign, nothing as spells_nothing, dropped as spells_dropped, token as spells_token}
use Rattle.cd_lex.specs.Spans.{AreInOrder, AreSlices}
use Rattle.cd_lex.proofs.PiecePrefixes.{bytes_append, some_characters}
use Rattle.cd_lex.proofs.WordPrefixes.{word_length}
use Rattle.cd_lex.proofs.Numerals.{numeral_length}

-- each token has a character, and so a byte
written_length : (joined : Bool) (written text : List ℕ) (kind : TokenKind) → IsLexemeOf joined written text kind → 0 < length written
written_length joined _ _ _ (writes_word name text is ends) = word_length name is
written_length joined _ _ _ (writes_number written text n numeral fits) = numeral_length written text n numeral
written_length joined _ _ _ (writes_negative written text n apart numeral fits) = omega arith
written_length joined _ _ _ (writes_chars written characters text quotes) = omega arith
written_length joined _ _ _ (writes_text written characters text quotes) = omega arith
written_length joined _ _ _ (writes_atom name text label ends) = omega arith
written_length joined _ _ _ (writes_sign is text longest no_pair no_number) = some_characters is

written_bytes : (joined : Bool) (written text : List ℕ) (kind : TokenKind) → IsLexemeOf joined written text kind → 0 < bytes written
written_bytes joined written text kind writes =
    let some = written_length joined written text kind writes in
    let all : length written ≤ bytes written = length-le-encodes written in
    omega arith

-- tokens that are in order from a byte on are so from each byte before it
from_before : (before at : ℕ) (tokens : List Token) → before ≤ at → AreInOrder at tokens → AreInOrder before tokens
from_before before at [] less order = order
from_before before at (token ∷ tokens) less order =
    let later : at ≤ token.span.from = order.0 in
    (omega arith, order.1, order.2)

pub in_order : (joined : Bool) (at : ℕ) (text : List ℕ) (tokens : List Token) → Lexes joined at text tokens → AreInOrder at tokens
in_order _ _ _ _ (spells_nothing joined at) = tt
in_order _ _ _ _ (spells_dropped joined at written text tokens drops lexes) =
    from_before at (at + bytes written) tokens (omega arith) (in_order false (at + bytes written) text tokens lexes)
in_order _ _ _ _ (spells_token joined at written text kind tokens writes lexes) =
    let some = written_bytes joined written text kind writes in
    (omega arith, omega arith, in_order (joins kind) (at + bytes written) text tokens lexes)

-- behind a prefix that ends at this byte, the tokens are slices of the whole
pub are_slices : (whole prefix : List ℕ) (joined : Bool) (at : ℕ) (text : List ℕ) (tokens : List Token) → whole ≡ prefix ++ text → at ≡ bytes prefix
    → Lexes joined at text tokens → AreSlices whole tokens
are_slices whole prefix _ _ _ _ is from (spells_nothing joined at) = tt
are_slices whole prefix _ _ _ _ is from (spells_dropped joined at written text tokens drops lexes) =
    let ends : at + bytes written ≡ bytes (prefix ++ written) = ap (λ n. n + bytes written) from ∙ sym (bytes_append prefix written) in
    are_slices whole (prefix ++ written) false (at + bytes written) text tokens (is ∙ sym (append_assoc prefix written text)) ends lexes
are_slices whole prefix _ _ _ _ is from (spells_token joined at written text kind tokens writes lexes) =
    let ends : at + bytes written ≡ bytes (prefix ++ written) = ap (λ n. n + bytes written) from ∙ sym (bytes_append prefix written) in
    let parted : whole ≡ prefix ++ written ++ text = is ∙ sym (append_assoc prefix written text) in (
      record { prefix = prefix; written = written; rest = text; joined = joined; is = parted; from = from; to = ends; writes = writes },
      are_slices whole (prefix ++ written) (joins kind) (at + bytes written) text tokens parted ends lexes,
    )
