-- A label is ASCII, so its bytes are its characters.
use Rattle.std.proofs.Common.{◌≡◌, ℕ, ◌<◌, true, List, [], ◌∷◌, ◌↔◌, IsTrue, sym, ◌∙◌, subst, arith}
use Rattle.std.proofs.lemmas.Bool.{and_parts}
use Rattle.std.proofs.lemmas.Bool.Decides.{nat_tests}
use Rattle.std.proofs.lemmas.Str.{encodes-IsAscii, encodes-chars}
use Rattle.std.proofs.lemmas.Str.Ascii.{IsAscii-nil, IsAscii-cons}
use Rattle.std.specs.List.{list_all}
use Rattle.std.specs.Str.{IsUtf8, IsAscii, chars}
use Rattle.cd_sets.specs.Atoms.{IsAtom}
use Rattle.cd_syntax.specs.Name.{IsLabel, is_word, begins_word, goes_on_word}

first_is_ascii : (c : ℕ) → IsTrue (begins_word c) → c < 128
first_is_ascii c is = grind (arith, nat_tests)

other_is_ascii : (c : ℕ) → IsTrue (goes_on_word c) → c < 128
other_is_ascii c is = grind (arith, nat_tests)

-- both crates say the same of a name
pub same_names : (name : List ℕ) → IsLabel name ↔ IsAtom name
same_names [] = (λ is. is, λ is. is)
same_names (c ∷ cs) = (λ is. is, λ is. is)

others_are_ascii : (cs : List ℕ) → list_all goes_on_word cs ≡ true → IsAscii cs
others_are_ascii [] all = IsAscii-nil
others_are_ascii (c ∷ cs) all =
    let both = and_parts (goes_on_word c) (list_all goes_on_word cs) all in
    IsAscii-cons c cs (other_is_ascii c both.0) (others_are_ascii cs both.1)

pub word_is_ascii : (name : List ℕ) → is_word name ≡ true → IsAscii name
word_is_ascii [] word = IsAscii-nil
word_is_ascii (c ∷ cs) word =
    let both = and_parts (begins_word c) (list_all goes_on_word cs) word in
    IsAscii-cons c cs (first_is_ascii c both.0) (others_are_ascii cs both.1)

-- a text whose characters are a label is these characters
pub same_texts : (text : List ℕ) → IsUtf8 text → IsLabel (chars text) → IsAtom text × (chars text ≡ text)
same_texts text utf8 label =
    let same = sym (encodes-IsAscii (chars text) (word_is_ascii (chars text) label.0)) ∙ encodes-chars text utf8 in
    (subst IsAtom same ((same_names (chars text)).0 label), same)
