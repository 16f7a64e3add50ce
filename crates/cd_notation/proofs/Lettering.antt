-- The characters of a text are put on the items.
use Rattle.std.proofs.Common.{◌≡◌, ◌∙◌, ap, subst, sym, refl, arith, ℕ, List, [], ◌∷◌, ◌++◌, length, encode_utf8, append_assoc}
use Rattle.std.specs.Str.{chars, IsUtf8}
use Rattle.std.proofs.lemmas.Str.{chars_past_char, IsUtf8-past_char, chars-nil}
use Rattle.cd_model.specs.Thing.{Thing, Character}
use Rattle.cd_documents.specs.Machine.{letters_onto}
use Rattle.cd_cells.specs.declared.values.Values.{Values}
use Rattle.cd_cells.specs.declared.cell.ValueId.{ValueId}
use Rattle.cd_cells.specs.Table.{table, IsAt, Grows}
use Rattle.cd_notation.specs.Inner.Open as the
use Rattle.cd_notation.specs.Inner.Open.{AreAt, IsTop, HasItems}
use Rattle.cd_notation.specs.Inner.Leading.{HasLetters}
use Rattle.cd_cells.proofs.GrownTables.{itself, further}
use Rattle.cd_notation.proofs.Growth.{are_grown}

-- the characters up to the rest of the text
pub record HaveLetters (old_values : Values) (old : List ValueId) (text : List ℕ) (values : Values) (items : List ValueId) (rest : List ℕ) : Type 0 where
  pub top : List ValueId
  pub so_far : List Thing
  pub is : items ≡ top ++ old
  pub at : AreAt (table values) top so_far
  pub goes : letters_onto (chars rest) so_far ≡ letters_onto text []
  pub grows : Grows old_values values
  pub utf8 : IsUtf8 rest

pub letters_start : (values : Values) (items : List ValueId) (text bytes : List ℕ) → IsUtf8 bytes → chars bytes ≡ text → HaveLetters values items text values items bytes
letters_start values items text bytes utf8 is = record {
  top = [];
  so_far = [];
  is = refl;
  at = the.AreAt.none;
  goes = ap (λ (cs : List ℕ). letters_onto cs []) is;
  grows = itself values;
  utf8 = utf8;
}

pub letters_go_on : (old_values one two : Values) (old items new : List ValueId) (text rest later : List ℕ) (c : ℕ) (id : ValueId)
    → HaveLetters old_values old text one items rest → rest ≡ encode_utf8 c ++ later → Grows one two → IsAt (table two) id.0 (Character c) → new ≡ id ∷ items
    → HaveLetters old_values old text two new later
letters_go_on old_values one two old items new text rest later c id so_far is grows at pushed = record {
  top = id ∷ so_far.top;
  so_far = Character c ∷ so_far.so_far;
  is = pushed ∙ ap (λ (all : List ValueId). id ∷ all) so_far.is;
  at = the.AreAt.one id (Character c) so_far.top so_far.so_far at (are_grown one two grows so_far.top so_far.so_far so_far.at);
  goes = ap (λ (cs : List ℕ). letters_onto cs so_far.so_far) (sym (chars_past_char rest later c so_far.utf8 is)) ∙ so_far.goes;
  grows = further old_values one two so_far.grows grows;
  utf8 = IsUtf8-past_char rest later c so_far.utf8 is;
}

pub letters_end : (old_values values : Values) (old items : List ValueId) (text rest : List ℕ) → HaveLetters old_values old text values items rest → length rest ≡ 0
    → HasLetters (table values) text old items
letters_end old_values values old items text [] so_far none = record {
  top = so_far.top;
  is = so_far.is;
  at = subst (AreAt (table values) so_far.top) (ap (λ (cs : List ℕ). letters_onto cs so_far.so_far) (sym chars-nil) ∙ so_far.goes) so_far.at;
}
letters_end old_values values old items text (byte ∷ rest) so_far none = absurd (omega (arith, none))

both_at : (all : List Thing) (first : List ValueId) (values : List Thing) (second : List ValueId) (others : List Thing) → AreAt all first values → AreAt all second others
    → AreAt all (first ++ second) (values ++ others)
both_at all _ _ second others the.AreAt.none are = are
both_at all _ _ second others (the.AreAt.one id value ids values at rest) are = the.AreAt.one id value (ids ++ second) (values ++ others) at (both_at all ids values second others rest are)

letters_over : (cs : List ℕ) (first before : List Thing) → letters_onto cs (first ++ before) ≡ letters_onto cs first ++ before
letters_over [] first before = refl
letters_over (c ∷ cs) first before = letters_over cs (Character c ∷ first) before

-- the characters are items of the form
pub more_letters : (all : List Thing) (cs : List ℕ) (from : ℕ) (items new below : List ValueId) (values : List Thing) → HasLetters all cs items new
    → HasItems all from items below values → HasItems all from new below (letters_onto cs values)
more_letters all cs from items new below values letters has = record {
  top = letters.top ++ has.top;
  is = record { is = letters.is ∙ ap (λ (list : List ValueId). letters.top ++ list) has.is.is ∙ sym (append_assoc letters.top has.top below); under = has.is.under };
  at = subst (AreAt all (letters.top ++ has.top)) (sym (letters_over cs [] values)) (both_at all letters.top (letters_onto cs []) has.top values letters.at has.at);
}
