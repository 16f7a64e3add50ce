-- The characters of a text become pairs, the last one first.
use Rattle.std.proofs.Common.{◌≡◌, ◌∙◌, ap, subst, sym, arith, ℕ, ◌<◌, List, [], ◌∷◌, ◌++◌}
use Rattle.std.proofs.Common.{length, encode_utf8, append-nil, append_assoc}
use Rattle.std.specs.Str.{chars, IsUtf8}
use Rattle.std.proofs.Math.Utf8.{encodes}
use Rattle.std.proofs.lemmas.Str.{chars_from_encodes}
use Rattle.cd_model.specs.Thing.{Thing, Character, Pair}
use Rattle.cd_matching.specs.Sequences.{nil, text_of}
use Rattle.cd_cells.specs.declared.values.Values.{Values}
use Rattle.cd_cells.specs.Cells.{thing_at}
use Rattle.cd_cells.specs.Table.{table, IsAt, Grows}
use Rattle.cd_cells.proofs.TableGrows.{last_at}
use Rattle.cd_cells.proofs.GrownTables.{further, at_grown}

-- these bytes are left, and the characters after them are pairs
pub record IsPaired (old : Values) (text : List ℕ) (now : Values) (made : ℕ) (rest : List ℕ) : Type 0 where
  pub done : List ℕ
  pub lexes : text ≡ rest ++ encodes done
  pub is : IsAt (table now) made (text_of done)
  pub grows : Grows old now

pub paired_start : (old values : Values) (end : ℕ) (text rest : List ℕ) → rest ≡ text → IsAt (table values) end nil → Grows old values
    → IsPaired old text values end rest
paired_start old values end text rest is at grows = record {
  done = [];
  lexes = sym is ∙ sym (append-nil rest);
  is = at;
  grows = grows;
}

pub paired_on : (old one two three : Values) (before letter id : ℕ) (text rest later : List ℕ) (c : ℕ)
    → IsPaired old text one before rest → rest ≡ later ++ encode_utf8 c
    → Grows one two → IsAt (table two) letter (Character c) → Grows two three
    → table three ≡ table two ++ Pair (thing_at (table two) letter) (thing_at (table two) before) ∷ []
    → id ≡ length (table two) → IsPaired old text three id later
paired_on old one two three before letter id text rest later c now is grows at then added last =
    let after = at_grown one two grows before (text_of now.done) now.is in record {
      done = c ∷ now.done;
      lexes = now.lexes ∙ ap (λ (bytes : List ℕ). bytes ++ encodes now.done) is ∙ append_assoc later (encode_utf8 c) (encodes now.done);
      is = last_at (table two) (table three) id (Pair (Character c) (text_of now.done))
          (added ∙ ap (λ (one : Thing). table two ++ one ∷ []) (cc (at.is, after.is))) last;
      grows = further old two three (further old one two now.grows grows) then;
    }

pub paired_end : (old now : Values) (made : ℕ) (text rest : List ℕ) → IsUtf8 text → IsPaired old text now made rest → length rest ≡ 0
    → IsAt (table now) made (text_of (chars text))
paired_end old now made text [] utf8 all none =
    subst (λ (cs : List ℕ). IsAt (table now) made (text_of cs)) (chars_from_encodes all.done text utf8 (sym all.lexes)) all.is
paired_end old now made text (byte ∷ rest) utf8 all none = absurd (omega (arith, none))

-- the pairs so far have a number
pub paired_within : (old one two : Values) (before : ℕ) (text rest : List ℕ) → IsPaired old text one before rest → Grows one two
    → before < length (table two)
paired_within old one two before text rest now grows = (at_grown one two grows before (text_of now.done) now.is).within
