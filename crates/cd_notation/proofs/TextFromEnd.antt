-- The characters of a text become pairs, the last one first.
use Rattle.std.proofs.Common.{◌≡◌, ◌∙◌, ap, subst, sym, refl, arith, ℕ, ◌<◌, List, [], ◌∷◌, ◌++◌}
use Rattle.std.proofs.Common.{length, encode_utf8, append-nil, append_assoc}
use Rattle.std.specs.Str.{chars, IsUtf8}
use Rattle.std.proofs.Math.Utf8.{encodes}
use Rattle.std.proofs.lemmas.Str.{chars_from_encodes}
use Rattle.cd_model.specs.Thing.{Thing, Character, Pair}
use Rattle.cd_documents.specs.Document.{characters_before}
use Rattle.cd_cells.specs.declared.values.Values.{Values}
use Rattle.cd_cells.specs.Cells.{thing_at}
use Rattle.cd_cells.specs.Table.{table, IsAt, Grows}
use Rattle.cd_cells.proofs.TableGrows.{last_at}
use Rattle.cd_cells.proofs.GrownTables.{at_grown, itself, further}

-- these bytes are left, and the characters after them are pairs
pub record IsPaired (old : Values) (end : ℕ) (text : List ℕ) (now : Values) (made : ℕ)
    (rest : List ℕ) : Type 0 where
  pub done : List ℕ
  pub lexes : text ≡ rest ++ encodes done
  pub is : (last : Thing) → IsAt (table old) end last
      → IsAt (table now) made (characters_before done last)
  pub grows : Grows old now

pub paired_start : (values : Values) (end : ℕ) (text rest : List ℕ) → rest ≡ text
    → IsPaired values end text values end rest
paired_start values end text rest is = record {
  done = [];
  lexes = sym is ∙ sym (append-nil rest);
  is = λ last at. at;
  grows = itself values;
}

-- the pair of a character and what comes after it
pair_at : (old new : Values) (letter before id c : ℕ) (after : Thing)
    → IsAt (table old) letter (Character c) → IsAt (table old) before after
    → table new ≡ table old ++ Pair (thing_at (table old) letter) (thing_at (table old) before) ∷ []
    → id ≡ length (table old) → IsAt (table new) id (Pair (Character c) after)
pair_at old new letter before id c after at after_at added last =
    last_at (table old) (table new) id (Pair (Character c) after)
    (added ∙ ap (λ (one : Thing). table old ++ one ∷ []) (cc (at.is, after_at.is))) last

pub paired_on : (old one two three : Values) (end before letter id : ℕ) (text rest later : List ℕ)
    (c : ℕ) → IsPaired old end text one before rest → rest ≡ later ++ encode_utf8 c
    → Grows one two → IsAt (table two) letter (Character c) → Grows two three
    → table three ≡ table two ++ Pair (thing_at (table two) letter) (thing_at (table two) before) ∷ []
    → id ≡ length (table two) → IsPaired old end text three id later
paired_on old one two three end before letter id text rest later c now is grows at then added last =
    record {
      done = c ∷ now.done;
      lexes = now.lexes ∙ ap (λ (bytes : List ℕ). bytes ++ encodes now.done) is
          ∙ append_assoc later (encode_utf8 c) (encodes now.done);
      is = λ final end_at.
          let after = characters_before now.done final in
          pair_at two three letter before id c after at
          (at_grown one two grows before after (now.is final end_at)) added last;
      grows = further old two three (further old one two now.grows grows) then;
    }

pub paired_end : (old now : Values) (end made : ℕ) (text rest : List ℕ) → IsUtf8 text
    → IsPaired old end text now made rest → length rest ≡ 0
    → (last : Thing) → IsAt (table old) end last
    → IsAt (table now) made (characters_before (chars text) last)
paired_end old now end made text [] utf8 all none last at =
    subst (λ (cs : List ℕ). IsAt (table now) made (characters_before cs last))
    (chars_from_encodes all.done text utf8 (sym all.lexes)) (all.is last at)
paired_end old now end made text (byte ∷ rest) utf8 all none last at = absurd (omega (arith, none))

-- the pairs so far have a number
pub paired_within : (old one two : Values) (end before : ℕ) (text rest : List ℕ)
    → IsPaired old end text one before rest → end < length (table old) → Grows one two
    → before < length (table two)
paired_within old one two end before text rest now within grows =
    let last = now.is (thing_at (table old) end) record { within = within; is = refl } in
    (at_grown one two grows before _ last).within
