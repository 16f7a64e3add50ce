-- The characters of a text become pairs, the last one first.
use Rattle.std.proofs.Common.{◌≡◌, ◌∙◌, ap, subst, sym, arith, ℕ, List, [], ◌∷◌, ◌++◌, length, encode_utf8, append_assoc}
use Rattle.std.specs.Str.{chars, IsUtf8}
use Rattle.std.proofs.Math.Utf8.{encodes}
use Rattle.std.proofs.lemmas.Str.{chars_from_encodes}
use Rattle.cd_model.specs.Thing.{Character, Pair}
use Rattle.cd_matching.specs.Sequences.{text_of}
use Rattle.cd_cells.specs.declared.values.Values.{Values}
use Rattle.cd_cells.specs.Cells.{thing_at}
use Rattle.cd_cells.specs.Table.{table, IsAt, Grows}
use Rattle.cd_cells.proofs.GrownTables.{at_grown, further}

-- these bytes are left, and the characters after them are pairs
pub record IsWritten (old : Values) (text : List ℕ) (now : Values) (made : ℕ) (rest : List ℕ) : Type 0 where
  pub done : List ℕ
  pub lexes : text ≡ rest ++ encodes done
  pub is : IsAt (table now) made (text_of done)
  pub grows : Grows old now

pub written_on : (old one two three : Values) (before letter id : ℕ) (text rest later : List ℕ) (c : ℕ)
    → IsWritten old text one before rest → rest ≡ later ++ encode_utf8 c → Grows one two → IsAt (table two) letter (Character c)
    → Grows two three → IsAt (table three) id (Pair (thing_at (table two) letter) (thing_at (table two) before))
    → IsWritten old text three id later
written_on old one two three before letter id text rest later c now is grows at then added = record {
  done = c ∷ now.done;
  lexes = now.lexes ∙ ap (λ (bytes : List ℕ). bytes ++ encodes now.done) is ∙ append_assoc later (encode_utf8 c) (encodes now.done);
  is =
      let after = at_grown one two grows before (text_of now.done) now.is in
      let pair : Pair (thing_at (table two) letter) (thing_at (table two) before) ≡ text_of (c ∷ now.done) = cc (at.is, after.is) in
      subst (IsAt (table three) id) pair added;
  grows = further old two three (further old one two now.grows grows) then;
}

pub written_end : (old now : Values) (made : ℕ) (text rest : List ℕ) → IsUtf8 text → IsWritten old text now made rest → length rest ≡ 0
    → IsAt (table now) made (text_of (chars text))
written_end old now made text [] utf8 all none =
    subst (λ (cs : List ℕ). IsAt (table now) made (text_of cs)) (chars_from_encodes all.done text utf8 (sym all.lexes)) all.is
written_end old now made text (byte ∷ rest) utf8 all none = absurd (omega (arith, none))
