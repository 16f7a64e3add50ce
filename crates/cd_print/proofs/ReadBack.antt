-- The canonical text of data is read back.
use Rattle.std.proofs.Common.{◌≡◌, ◌∙◌, ℕ, zero, suc, ◌≤◌, max, true, false, Bool, List, [], ◌∷◌, ◌++◌, Option, Some, None, map, refl, sym, ap, subst, true≢false, arith, if◌then◌else◌, append-nil}
use Rattle.std.specs.Prelude.{codes, bytes_eq}
use Rattle.std.specs.Char.{IsScalar}
use Rattle.std.specs.Ordering.{nat_cmp, is_eq, ordering_reverse}
use Rattle.std.specs.Cmp.Lexicographic.{slice_cmp}
use Rattle.std.specs.declared.cmp.Ordering.TheVariants.{Less}
use Rattle.std.proofs.Math.Nat.{le-max_left, le-max_right}
use Rattle.std.proofs.lemmas.Cmp.{nat_list_cmp_total}
use Rattle.std.proofs.lemmas.Map.Text.{is_eq-slice_cmp}
use Rattle.std.proofs.lemmas.Slice.Eq.{bytes_eq-Decides}
use Rattle.cd_syntax.specs.Name.{Name, IsLabel, IsAbove}
use Rattle.cd_syntax.specs.Tokens as tokens
use Rattle.cd_syntax.specs.Tokens.{at}
use Rattle.cd_syntax.specs.declared.sign.Sign.TheVariants as sign
use Rattle.cd_syntax.specs.declared.tokens.TokenKind.TheVariants as token
use Rattle.cd_model.specs.AllOf.{AllOf}
use Rattle.cd_model.specs.Canonical.{Letter, Spine, atom_printed, nil_printed, plainly, xml_printed, tag_name, spine_text, printed, field_texts, canonical}
use Rattle.cd_model.specs.Thing.{Thing, Integer, Character, Atom, Pair, Xml, Record, Function, Closure, Fields, NoField, Field}
use Rattle.cd_model.specs.Thing.{IsValue, AreValues, IsData, AreData, IsAtom, IsRecord, LabelsRise}
use Rattle.cd_documents.specs.Document as document
use Rattle.cd_documents.specs.Document.{IsDocument, the_nil, characters_before, is_among, with_field}
use Rattle.cd_documents.specs.Reading.{WritesValue, most_open}
use Rattle.cd_print.specs.Brackets.{brackets, along, within, of_fields, is_text}
use Rattle.cd_print.proofs.OneSign.{open_bracket, close_bracket}
use Rattle.cd_print.proofs.ReadsOn.{sign_then}
use Rattle.cd_print.proofs.PlainRead.{integer_back, character_back, atom_back}
use Rattle.cd_print.proofs.SpinesRead.{Only, only, Printed, PartIs, SpineIs, letter, stands, nil_end, value_end, before, spine_back, letters_back}
use Rattle.cd_print.proofs.FieldsRead.{FieldsAre, no_text, field_text_is, record_back, xml_back}

left_le : (a b most : ℕ) → max a b ≤ most → a ≤ most
left_le a b most le = omega (arith, le-max_left a b)

right_le : (a b most : ℕ) → max a b ≤ most → b ≤ most
right_le a b most le = omega (arith, le-max_right a b)

-- `nil` is `[]`
nil_back : (depth : ℕ) → Printed (suc depth) (codes "[]") the_nil
nil_back depth = record {
  starts = λ rest. record { no_equal = refl; no_question = refl; no_star = refl };
  reads = λ rest more ends lexes from.
      sign_then more false sign.OpenBracket (93 ∷ rest) (Only sign.CloseBracket) (λ tokens. IsDocument (suc depth) tokens the_nil)
      (open_bracket (93 ∷ rest)) (only false sign.CloseBracket rest more refl (close_bracket rest) lexes)
      (λ span tokens last. subst (λ all. IsDocument (suc depth) (at (token.Sign sign.OpenBracket) span ∷ all) the_nil) (sym last.one)
      (document.sequence depth span last.span [] the_nil (document.no_item depth))) from;
}

is_nil : (name : Name) → bytes_eq name (codes "nil") ≡ true → the_nil ≡ Atom name
is_nil name test = ap Atom (sym ((bytes_eq-Decides name (codes "nil")).0 test))

nil_deep : (depth : ℕ) → 1 ≤ depth → Printed depth (codes "[]") the_nil
nil_deep zero le = absurd (omega arith)
nil_deep (suc depth) le = nil_back depth

atom_text : (name : Name) (depth : ℕ) → brackets (Atom name) ≤ depth → IsLabel name → Printed depth (atom_printed name).text (Atom name)
atom_text name depth le is = by_test (bytes_eq name (codes "nil")) refl le
  where
    by_test : (test : Bool) → bytes_eq name (codes "nil") ≡ test → (if test then 1 else 0) ≤ depth
        → Printed depth (if test then nil_printed else plainly (codes "`" ++ name)).text (Atom name)
    by_test true test le = subst (Printed depth (codes "[]")) (is_nil name test) (nil_deep depth le)
    by_test false test le = atom_back depth name is

atom_spine : (name : Name) (depth : ℕ) → IsLabel name → SpineIs depth (atom_printed name).spine.parts (atom_printed name).spine.end (Atom name)
atom_spine name depth is = by_test (bytes_eq name (codes "nil")) refl
  where
    by_test : (test : Bool) → bytes_eq name (codes "nil") ≡ test
        → SpineIs depth (if test then nil_printed else plainly (codes "`" ++ name)).spine.parts (if test then nil_printed else plainly (codes "`" ++ name)).spine.end (Atom name)
    by_test true test = subst (SpineIs depth [] None) (is_nil name test) nil_end
    by_test false test = value_end (codes "`" ++ name) (Atom name) (atom_back depth name is)

atom_part : (name : Name) (depth : ℕ) → Printed depth (atom_printed name).text (Atom name) → PartIs depth (atom_printed name).part (Atom name)
atom_part name depth back = by_test (bytes_eq name (codes "nil")) back
  where
    by_test : (test : Bool) → Printed depth (if test then nil_printed else plainly (codes "`" ++ name)).text (Atom name)
        → PartIs depth (if test then nil_printed else plainly (codes "`" ++ name)).part (Atom name)
    by_test true back = stands (codes "[]") (Atom name) back
    by_test false back = stands (codes "`" ++ name) (Atom name) back

part_of : (v : Thing) (depth : ℕ) → IsValue v → Printed depth (printed v).text v → PartIs depth (printed v).part v
part_of (Integer n) depth is back = stands (printed (Integer n)).text (Integer n) back
part_of (Character c) depth is back = letter c is
part_of (Atom name) depth is back = atom_part name depth back
part_of (Pair first second) depth is back = stands (printed (Pair first second)).text (Pair first second) back
part_of (Xml tag attributes content) depth is back = stands (printed (Xml tag attributes content)).text (Xml tag attributes content) back
part_of (Record fields) depth is back = stands (printed (Record fields)).text (Record fields) back
part_of (Function pairs) depth is back = absurd is
part_of (Closure function environment) depth is back = stands (codes "<fun>") (Closure function environment) back

-- a spine of characters and `nil`
record IsLetters (v : Thing) : Type 0 where
  cs : List ℕ
  all : AllOf IsScalar cs
  value : v ≡ characters_before cs the_nil
  spine : (printed v).spine ≡ record { parts = map Letter cs; end = None }

letters_of : (v : Thing) → IsValue v → is_text v ≡ true → IsLetters v
letters_of (Atom name) is test = record {
  cs = [];
  all = tt;
  value = sym (is_nil name test);
  spine = by_test (bytes_eq name (codes "nil")) test;
}
  where
    by_test : (test : Bool) → test ≡ true → (if test then nil_printed else plainly (codes "`" ++ name)).spine ≡ record { parts = []; end = None }
    by_test true same = refl
    by_test false same = absurd (true≢false (sym same))
letters_of (Pair (Character c) rest) is test =
    let others = letters_of rest is.1 test in
    record {
      cs = c ∷ others.cs;
      all = (is.0, others.all);
      value = ap (Pair (Character c)) others.value;
      spine = ap (λ (spine : Spine). record { parts = Letter c ∷ spine.parts; end = spine.end }) others.spine;
    }
letters_of (Pair (Integer n) rest) is test = absurd (true≢false (sym test))
letters_of (Pair (Atom name) rest) is test = absurd (true≢false (sym test))
letters_of (Pair (Pair one two) rest) is test = absurd (true≢false (sym test))
letters_of (Pair (Xml tag attributes content) rest) is test = absurd (true≢false (sym test))
letters_of (Pair (Record fields) rest) is test = absurd (true≢false (sym test))
letters_of (Pair (Function pairs) rest) is test = absurd (true≢false (sym test))
letters_of (Pair (Closure function environment) rest) is test = absurd (true≢false (sym test))
letters_of (Integer n) is test = absurd (true≢false (sym test))
letters_of (Character c) is test = absurd (true≢false (sym test))
letters_of (Xml tag attributes content) is test = absurd (true≢false (sym test))
letters_of (Record fields) is test = absurd (true≢false (sym test))
letters_of (Function pairs) is test = absurd (true≢false (sym test))
letters_of (Closure function environment) is test = absurd (true≢false (sym test))

text_pair : (first second : Thing) (depth : ℕ) → IsValue (Pair first second) → is_text (Pair first second) ≡ true
    → Printed depth (printed (Pair first second)).text (Pair first second)
text_pair first second depth is test =
    by_letters (letters_of (Pair first second) is test)
  where
    by_spine : (spine : Spine) (c : ℕ) (cs : List ℕ) → AllOf IsScalar (c ∷ cs) → spine ≡ record { parts = map Letter (c ∷ cs); end = None }
        → Printed depth (spine_text spine.parts spine.end) (characters_before (c ∷ cs) the_nil)
    by_spine spine c cs all is =
        subst (λ (spine : Spine). Printed depth (spine_text spine.parts spine.end) (characters_before (c ∷ cs) the_nil)) (sym is) (letters_back depth c cs all)

    by_letters : IsLetters (Pair first second) → Printed depth (printed (Pair first second)).text (Pair first second)
    by_letters letters = by_list letters.cs letters.all letters.value letters.spine
      where
        by_list : (cs : List ℕ) → AllOf IsScalar cs → Pair first second ≡ characters_before cs the_nil
            → (printed (Pair first second)).spine ≡ record { parts = map Letter cs; end = None }
            → Printed depth (printed (Pair first second)).text (Pair first second)
        by_list [] all value spine = absurd cc
        by_list (c ∷ cs) all value spine = subst (Printed depth (printed (Pair first second)).text) (sym value) (by_spine (printed (Pair first second)).spine c cs all spine)

pair_text : (first second : Thing) (depth : ℕ) → brackets (Pair first second) ≤ depth → IsValue (Pair first second)
    → ((depth : ℕ) → brackets first ≤ depth → Printed depth (printed first).text first)
    → ((depth : ℕ) → along second ≤ depth → SpineIs depth (printed second).spine.parts (printed second).spine.end second)
    → Printed depth (printed (Pair first second)).text (Pair first second)
pair_text first second depth le is first_back second_back = by_test (is_text (Pair first second)) refl depth le
  where
    by_test : (test : Bool) → is_text (Pair first second) ≡ test → (depth : ℕ) → (if test then 0 else suc (max (brackets first) (along second))) ≤ depth
        → Printed depth (printed (Pair first second)).text (Pair first second)
    by_test true test depth le = text_pair first second depth is test
    by_test false test zero le = absurd (omega arith)
    by_test false test (suc depth) le =
        let most : max (brackets first) (along second) ≤ depth = omega arith in
        spine_back depth (printed first).part (printed second).spine.parts (printed second).spine.end first second
        (part_of first depth is.0 (first_back depth (left_le (brackets first) (along second) depth most)))
        (second_back depth (right_le (brackets first) (along second) depth most))

-- attributes
record HasFields (depth : ℕ) (v : Thing) : Type 0 where
  fields : Fields
  is : v ≡ Record fields
  are : FieldsAre depth [] (printed v).fields fields

is_tag : (tag : Thing) → IsAtom tag → (name : Name) × (tag ≡ Atom name)
is_tag (Atom name) is = (name, refl)
is_tag (Integer n) is = absurd is
is_tag (Character c) is = absurd is
is_tag (Pair one two) is = absurd is
is_tag (Xml tag attributes content) is = absurd is
is_tag (Record fields) is = absurd is
is_tag (Function pairs) is = absurd is
is_tag (Closure function environment) is = absurd is

xml_text : (tag attributes content : Thing) (depth : ℕ) → brackets (Xml tag attributes content) ≤ depth → IsValue (Xml tag attributes content)
    → ((depth : ℕ) → within attributes ≤ depth → HasFields depth attributes)
    → ((depth : ℕ) → brackets content ≤ depth → Printed depth (printed content).text content)
    → Printed depth (printed (Xml tag attributes content)).text (Xml tag attributes content)
xml_text tag attributes content zero le is fields_back content_back = absurd (omega arith)
xml_text tag attributes content (suc depth) le is fields_back content_back =
    let most : max (within attributes) (brackets content) ≤ depth = omega arith in
    let named = is_tag tag is.0 in
    let has = fields_back depth (left_le (within attributes) (brackets content) depth most) in
    subst (λ one. Printed (suc depth) (xml_printed (tag_name one) (printed attributes) (printed content)).text (Xml one attributes content)) (sym named.1)
    (subst (λ record_of. Printed (suc depth) (xml_printed named.0 (printed attributes) (printed content)).text (Xml (Atom named.0) record_of content)) (sym has.is)
    (xml_back depth named.0 (printed attributes).fields has.fields (printed content).text content
    (subst IsValue named.1 is.2) has.are (content_back depth (right_le (within attributes) (brackets content) depth most))))

record_text : (fields : Fields) (depth : ℕ) → brackets (Record fields) ≤ depth
    → ((depth : ℕ) → of_fields fields ≤ depth → FieldsAre depth [] (field_texts fields) fields)
    → Printed depth (printed (Record fields)).text (Record fields)
record_text fields zero le back = absurd (omega arith)
record_text fields (suc depth) le back = record_back depth (field_texts fields) fields (back depth (omega arith))

-- the labels before are none of those after
abbrev Passed : Option Name → List Name → Type 0
Passed last labels = (label : Name) → IsAbove last label → is_among label labels ≡ false

above_both : (last : Option Name) (label other : Name) → IsAbove last label → slice_cmp nat_cmp label other ≡ Less → IsAbove last other
above_both None label other above higher = tt
above_both (Some last) label other above higher = nat_list_cmp_total.trans last label other above higher

pass : (last : Option Name) (labels : List Name) (label : Name) → Passed last labels → IsAbove last label → Passed (Some label) (label ∷ labels)
pass last labels label passed above = λ other higher.
    let differ : bytes_eq other label ≡ false =
    sym (is_eq-slice_cmp other label) ∙ ap is_eq (nat_list_cmp_total.antisymm other label ∙ ap ordering_reverse higher) in
    let new = passed other (above_both last label other above higher) in
    rw (differ, new) refl

first_field : (label : Name) (value : Thing) (others : Fields) → LabelsRise (Some label) others → with_field label value others ≡ Field label value others
first_field label value NoField rise = refl
first_field label value (Field other one rest) rise = rw rise.0 refl

mutual
  text_back : (v : Thing) (depth : ℕ) → brackets v ≤ depth → IsValue v → IsData v → Printed depth (printed v).text v
  text_back (Integer n) depth le is data_is = integer_back depth n is
  text_back (Character c) depth le is data_is = character_back depth c is
  text_back (Atom name) depth le is data_is = atom_text name depth le is
  text_back (Pair first second) depth le is data_is =
      pair_text first second depth le is (λ deep le. text_back first deep le is.0 data_is.0) (λ deep le. spine_of second deep le is.1 data_is.1)
  text_back (Xml tag attributes content) depth le is data_is =
      xml_text tag attributes content depth le is
      (λ deep le. fields_of attributes deep le is.1 is.3 data_is.1)
      (λ deep le. text_back content deep le is.4 data_is.2)
  text_back (Record fields) depth le is data_is =
      record_text fields depth le (λ deep le. each_back fields deep None [] le (λ label above. refl) is.0 is.1 data_is)
  text_back (Function pairs) depth le is data_is = absurd is
  text_back (Closure function environment) depth le is data_is = absurd data_is

  spine_of : (v : Thing) (depth : ℕ) → along v ≤ depth → IsValue v → IsData v → SpineIs depth (printed v).spine.parts (printed v).spine.end v
  spine_of (Integer n) depth le is data_is = value_end (printed (Integer n)).text (Integer n) (integer_back depth n is)
  spine_of (Character c) depth le is data_is = value_end (printed (Character c)).text (Character c) (character_back depth c is)
  spine_of (Atom name) depth le is data_is = atom_spine name depth is
  spine_of (Pair first second) depth le is data_is =
      before (printed first).part (printed second).spine.parts (printed second).spine.end first second
      (part_of first depth is.0 (text_back first depth (left_le (brackets first) (along second) depth le) is.0 data_is.0))
      (spine_of second depth (right_le (brackets first) (along second) depth le) is.1 data_is.1)
  spine_of (Xml tag attributes content) depth le is data_is =
      value_end (printed (Xml tag attributes content)).text (Xml tag attributes content)
      (xml_text tag attributes content depth le is
      (λ deep le. fields_of attributes deep le is.1 is.3 data_is.1)
      (λ deep le. text_back content deep le is.4 data_is.2))
  spine_of (Record fields) depth le is data_is =
      value_end (printed (Record fields)).text (Record fields)
      (record_text fields depth le (λ deep le. each_back fields deep None [] le (λ label above. refl) is.0 is.1 data_is))
  spine_of (Function pairs) depth le is data_is = absurd is
  spine_of (Closure function environment) depth le is data_is = absurd data_is

  fields_of : (v : Thing) (depth : ℕ) → within v ≤ depth → IsRecord v → IsValue v → IsData v → HasFields depth v
  fields_of (Record fields) depth le is_record is data_is =
      record { fields = fields; is = refl; are = each_back fields depth None [] le (λ label above. refl) is.0 is.1 data_is }
  fields_of (Integer n) depth le is_record is data_is = absurd is_record
  fields_of (Character c) depth le is_record is data_is = absurd is_record
  fields_of (Atom name) depth le is_record is data_is = absurd is_record
  fields_of (Pair one two) depth le is_record is data_is = absurd is_record
  fields_of (Xml tag attributes content) depth le is_record is data_is = absurd is_record
  fields_of (Function pairs) depth le is_record is data_is = absurd is_record
  fields_of (Closure function environment) depth le is_record is data_is = absurd is_record

  each_back : (fields : Fields) (depth : ℕ) (last : Option Name) (labels : List Name) → of_fields fields ≤ depth → Passed last labels → LabelsRise last fields
      → AreValues fields → AreData fields → FieldsAre depth labels (field_texts fields) fields
  each_back NoField depth last labels le passed rise are data_are = no_text labels
  each_back (Field label value rest) depth last labels le passed rise are data_are =
      field_text_is labels label (printed value).text (field_texts rest) value rest are.0 (passed label rise.0) (first_field label value rest rise.1)
      (text_back value depth (left_le (brackets value) (of_fields rest) depth le) are.1 data_are.0)
      (each_back rest depth (Some label) (label ∷ labels) (right_le (brackets value) (of_fields rest) depth le)
      (pass last labels label passed rise.0) rise.1 are.2 data_are.1)

pub read_back : (value : Thing) → IsValue value → IsData value → brackets value ≤ most_open → WritesValue (canonical value) value
read_back value is data_is le =
    let reads = (text_back value most_open le is data_is).reads [] (λ from. []) tt (λ from. tokens.nothing true from) 0 in
    record {
      tokens = reads.tokens;
      lexes = subst (λ all. tokens.Lexes false 0 (canonical value) all) (append-nil reads.tokens)
          (subst (λ text. tokens.Lexes false 0 text (reads.tokens ++ [])) (append-nil (canonical value)) reads.lexes);
      document = reads.is;
    }
