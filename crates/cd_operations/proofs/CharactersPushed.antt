-- The characters of a text are put before what is done, the first one first.
use Rattle.std.proofs.Common.{◌≡◌, ◌∙◌, ap, subst, sym, arith, ℕ, List, [], ◌∷◌, ◌++◌, length, map, encode_utf8}
use Rattle.std.specs.Str.{chars, IsUtf8}
use Rattle.std.proofs.lemmas.Str.{chars_past_char, IsUtf8-past_char, chars-nil}
use Rattle.cd_model.specs.Thing.{Thing, Character, Pair}
use Rattle.cd_cells.specs.declared.values.Values.{Values}
use Rattle.cd_cells.specs.Cells.{thing_at}
use Rattle.cd_cells.specs.Table.{table, IsAt, Grows}
use Rattle.cd_operations.specs.Along.{turned}
use Rattle.cd_cells.proofs.GrownTables.{at_grown, further}

abbrev lettered : List ℕ → Thing → Thing
lettered text onto = turned (map Character text) onto

-- these bytes are left, and the characters before them are put
pub record ArePut (old : Values) (text : List ℕ) (done : ℕ) (now : Values) (made : ℕ) (rest : List ℕ) : Type 0 where
  pub value : Thing
  pub at : IsAt (table now) made value
  pub goes : turned (map Character (chars rest)) value ≡ turned (map Character text) (thing_at (table old) done)
  pub grows : Grows old now
  pub utf8 : IsUtf8 rest

pub put_on : (old one two three : Values) (done before letter id : ℕ) (text rest later : List ℕ) (c : ℕ)
    → ArePut old text done one before rest → rest ≡ encode_utf8 c ++ later → Grows one two → IsAt (table two) letter (Character c)
    → Grows two three → IsAt (table three) id (Pair (thing_at (table two) letter) (thing_at (table two) before))
    → ArePut old text done three id later
put_on old one two three done before letter id text rest later c now is grows at then added =
    let after = at_grown one two grows before now.value now.at in
    let pair : Pair (thing_at (table two) letter) (thing_at (table two) before) ≡ Pair (Character c) now.value = cc (at.is, after.is) in
    record {
      value = Pair (Character c) now.value;
      at = subst (IsAt (table three) id) pair added;
      goes = ap (λ (cs : List ℕ). lettered cs now.value) (sym (chars_past_char rest later c now.utf8 is)) ∙ now.goes;
      grows = further old two three (further old one two now.grows grows) then;
      utf8 = IsUtf8-past_char rest later c now.utf8 is;
    }

pub put_end : (old now : Values) (done made : ℕ) (text rest : List ℕ) → ArePut old text done now made rest → length rest ≡ 0
    → IsAt (table now) made (turned (map Character text) (thing_at (table old) done))
put_end old now done made text [] all none =
    subst (IsAt (table now) made) (ap (λ (cs : List ℕ). lettered cs all.value) (sym chars-nil) ∙ all.goes) all.at
put_end old now done made text (byte ∷ rest) all none = absurd (omega (arith, none))
