-- The value of a document that a text writes is a value of programs.
use Rattle.std.proofs.Common.{◌≡◌, ◌∙◌, sym, ap, refl, true≢false, ℕ, Bool, true, false, ◌||◌, List, [], ◌∷◌, ◌++◌, Option, Some, None}
use Rattle.std.proofs.lemmas.Slice.Eq.{bytes_eq-Decides}
use Rattle.std.proofs.lemmas.Cmp.{nat_list_cmp_total}
use Rattle.std.proofs.lemmas.Map.Text.{is_eq-slice_cmp}
use Rattle.std.specs.Prelude.{if◌then◌else◌, codes, bytes_eq, IsTrue}
use Rattle.std.specs.Char.{IsScalar}
use Rattle.std.specs.Ordering.{nat_cmp, is_lt, is_eq, ordering_reverse}
use Rattle.std.specs.Cmp.Lexicographic.{slice_cmp}
use Rattle.std.specs.declared.cmp.Ordering.{Ordering}
use Rattle.std.specs.declared.cmp.Ordering.TheVariants.{Less, Equal, Greater}
use Rattle.cd_syntax.specs.declared.sign.Sign.TheVariants as sign
use Rattle.cd_syntax.specs.declared.tokens.Token.{Token}
use Rattle.cd_syntax.specs.declared.tokens.TokenKind.{TokenKind}
use Rattle.cd_syntax.specs.declared.tokens.TokenKind.TheVariants as token
use Rattle.cd_syntax.specs.Integer.{IsInteger}
use Rattle.cd_syntax.specs.Name.{Name, is_word, IsLabel, IsAbove}
use Rattle.cd_syntax.specs.Quotes as quotes
use Rattle.cd_syntax.specs.Quotes.{Quotes, IsEscapeLetter}
use Rattle.cd_syntax.specs.Tokens as tokens_of
use Rattle.cd_syntax.specs.Tokens.{IsLexemeOf, Lexes}
use Rattle.cd_syntax.specs.Tokens.{at}
use Rattle.cd_model.specs.AllOf.{AllOf}
use Rattle.cd_model.specs.Thing.{Thing, Fields, NoField, Field, LabelsRise, IsValue, AreValues}
use Rattle.cd_documents.specs.Document as document
use Rattle.cd_documents.specs.Document.{the_nil, characters_before, is_among, with_field, IsDocument, AreParts, AreItems, AreFields, AreMoreFields, AreAttributes}

-- what a token of a text holds
abbrev IsSound : TokenKind → Type 0
IsSound (token.Word name) = IsTrue (is_word name)
IsSound (token.Int n) = IsInteger n
IsSound (token.Chars cs) = AllOf IsScalar cs
IsSound (token.Text cs) = AllOf IsScalar cs
IsSound (token.Atom name) = IsLabel name
IsSound (token.Sign is) = Unit {0}

abbrev AreSound : List Token → Type 0
AreSound tokens = AllOf (λ one. IsSound one.kind) tokens

both : {X : Type 0} (fact : X → Type 0) (first second : List X) → AllOf fact (first ++ second) → AllOf fact first × AllOf fact second
both fact [] second all = (tt, all)
both fact (one ∷ first) second all = let rest = both fact first second all.1 in ((all.0, rest.0), rest.1)

escape_scalar : (letter c : ℕ) → IsEscapeLetter letter c → IsScalar c
escape_scalar _ _ quotes.line_feed = refl
escape_scalar _ _ quotes.carriage_return = refl
escape_scalar _ _ quotes.tab = refl
escape_scalar _ _ quotes.backslash = refl
escape_scalar _ _ quotes.apostrophe = refl
escape_scalar _ _ quotes.quote = refl

quoted_scalars : (quote : ℕ) (written characters : List ℕ) → Quotes quote written characters → AllOf IsScalar written → AllOf IsScalar characters
quoted_scalars quote _ _ quotes.nothing all = tt
quoted_scalars quote _ _ (quotes.itself c written characters other not_escape rest) all = (all.0, quoted_scalars quote written characters rest all.1)
quoted_scalars quote _ _ (quotes.letter letter c written characters is rest) all =
    (escape_scalar letter c is, quoted_scalars quote written characters rest all.1.1)
quoted_scalars quote _ _ (quotes.code digits written characters is rest) all =
    let after = both IsScalar digits (59 ∷ written) all.1 in
    (is.scalar, quoted_scalars quote written characters rest after.1.1)

kind_sound : (joined : Bool) (written text : List ℕ) (kind : TokenKind) → IsLexemeOf joined written text kind → AllOf IsScalar written → IsSound kind
kind_sound joined _ _ _ (tokens_of.word name text is ends) all = is
kind_sound joined _ _ _ (tokens_of.number digits text are begins fits) all = fits
kind_sound joined _ _ _ (tokens_of.negative digits text apart are begins fits) all = fits
kind_sound joined _ _ _ (tokens_of.chars written characters text is) all = quoted_scalars 39 written characters is (both IsScalar written (39 ∷ []) all.1).0
kind_sound joined _ _ _ (tokens_of.text written characters text is) all = quoted_scalars 34 written characters is (both IsScalar written (34 ∷ []) all.1).0
kind_sound joined _ _ _ (tokens_of.atom name text is ends) all = is
kind_sound joined _ _ _ (tokens_of.sign is text longest no_comment no_number) all = tt

spelled_sound : (joined : Bool) (from : ℕ) (text : List ℕ) (tokens : List Token) → Lexes joined from text tokens → AllOf IsScalar text → AreSound tokens
spelled_sound joined from _ _ (tokens_of.nothing _ _) all = tt
spelled_sound joined from _ _ (tokens_of.dropped _ _ written text tokens is rest) all =
    spelled_sound _ _ text tokens rest (both IsScalar written text all).1
spelled_sound joined from _ _ (tokens_of.token _ _ written text kind tokens is rest) all =
    let parts = both IsScalar written text all in
    (kind_sound joined written text kind is parts.0, spelled_sound _ _ text tokens rest parts.1)

-- no field has this label
abbrev Lacks : Name → Fields → Type 0
Lacks label NoField = Unit {0}
Lacks label (Field other value rest) = (bytes_eq label other ≡ false) × Lacks label rest

lacks_either : (b : Bool) (label : Name) (one other : Fields) → Lacks label one → Lacks label other → Lacks label (if b then one else other)
lacks_either true label one other lacks lacks_other = lacks
lacks_either false label one other lacks lacks_other = lacks_other

lacks_field : (label other : Name) (value : Thing) (fields : Fields) → bytes_eq label other ≡ false → Lacks label fields → Lacks label (with_field other value fields)
lacks_field label other value NoField differ lacks = (differ, tt)
lacks_field label other value (Field next one rest) differ lacks =
    lacks_either (is_lt (slice_cmp nat_cmp other next)) label (Field other value (Field next one rest)) (Field next one (with_field other value rest))
    (differ, lacks) (lacks.0, lacks_field label other value rest differ lacks.1)

differ_by : (b : Bool) (label other : Name) (before : List Name) → bytes_eq label other ≡ b → is_among label before ≡ true → is_among other before ≡ false → bytes_eq label other ≡ false
differ_by false label other before is there missing = is
differ_by true label other before is there missing =
    absurd (true≢false (sym there ∙ ap (λ name. is_among name before) ((bytes_eq-Decides label other).0 is) ∙ missing))

differ : (label other : Name) (before : List Name) → is_among label before ≡ true → is_among other before ≡ false → bytes_eq label other ≡ false
differ label other before there missing = differ_by (bytes_eq label other) label other before refl there missing

or_true : (b c : Bool) → c ≡ true → (b || c) ≡ true
or_true true c is = refl
or_true false c is = is

itself_among : (label : Name) (before : List Name) → is_among label (label ∷ before) ≡ true
itself_among label before = ap (λ b. b || is_among label before) ((bytes_eq-Decides label label).1 refl)

mutual
  fields_lack : (depth : ℕ) (before : List Name) (tokens : List Token) (all : Fields) → AreFields depth before tokens all
      → (name : Name) → is_among name before ≡ true → Lacks name all
  fields_lack _ _ _ _ (document.no_field depth before) name there = tt
  fields_lack _ _ _ _ (document.field depth before label span equal tokens rest value others other new is are) name there =
      lacks_field name label value others (differ name label before there new)
      (more_lack depth (label ∷ before) rest others are name (or_true (bytes_eq name label) (is_among name before) there))

  more_lack : (depth : ℕ) (before : List Name) (tokens : List Token) (all : Fields) → AreMoreFields depth before tokens all
      → (name : Name) → is_among name before ≡ true → Lacks name all
  more_lack _ _ _ _ (document.no_more depth before) name there = tt
  more_lack _ _ _ _ (document.semicolon depth before span tokens all are) name there = fields_lack depth before tokens all are name there

attributes_lack : (depth : ℕ) (before : List Name) (tokens : List Token) (all : Fields) → AreAttributes depth before tokens all
    → (name : Name) → is_among name before ≡ true → Lacks name all
attributes_lack _ _ _ _ (document.no_attribute depth before) name there = tt
attributes_lack _ _ _ _ (document.attribute depth before label span equal tokens mark rest value others other new is marked are) name there =
    lacks_field name label value others (differ name label before there new)
    (attributes_lack depth (label ∷ before) rest others are name (or_true (bytes_eq name label) (is_among name before) there))

-- one more field keeps labels rising
rises_by : (order : Ordering) (before : Option Name) (label : Name) (value : Thing) (other : Name) (one : Thing) (rest : Fields)
    → slice_cmp nat_cmp label other ≡ order → IsAbove before label → LabelsRise before (Field other one rest) → bytes_eq label other ≡ false
    → (IsAbove (Some other) label → LabelsRise (Some other) (with_field label value rest))
    → LabelsRise before (if is_lt order then Field label value (Field other one rest) else Field other one (with_field label value rest))
rises_by Less before label value other one rest is above rise differ on = (above, (is, rise.1))
rises_by Equal before label value other one rest is above rise differ on =
    absurd (true≢false (ap is_eq (sym is) ∙ is_eq-slice_cmp label other ∙ differ))
rises_by Greater before label value other one rest is above rise differ on =
    (rise.0, on (nat_list_cmp_total.antisymm other label ∙ ap ordering_reverse is))

rises : (before : Option Name) (label : Name) (value : Thing) (fields : Fields) → IsAbove before label → LabelsRise before fields → Lacks label fields
    → LabelsRise before (with_field label value fields)
rises before label value NoField above rise lacks = (above, tt)
rises before label value (Field other one rest) above rise lacks =
    rises_by (slice_cmp nat_cmp label other) before label value other one rest refl above rise lacks.0
    (λ later. rises (Some other) label value rest later rise.1 lacks.1)

values_either : (b : Bool) (one other : Fields) → AreValues one → AreValues other → AreValues (if b then one else other)
values_either true one other are are_other = are
values_either false one other are are_other = are_other

with_value : (label : Name) (value : Thing) (fields : Fields) → IsLabel label → IsValue value → AreValues fields → AreValues (with_field label value fields)
with_value label value NoField named is are = (named, is, tt)
with_value label value (Field other one rest) named is are =
    values_either (is_lt (slice_cmp nat_cmp label other)) (Field label value (Field other one rest)) (Field other one (with_field label value rest))
    (named, is, are) (are.0, are.1, with_value label value rest named is are.2)

nil_value : IsValue the_nil
nil_value = (refl, λ same. true≢false (sym ((bytes_eq-Decides (codes "nil") (codes "_")).1 same)))

characters_value : (cs : List ℕ) (rest : Thing) → AllOf IsScalar cs → IsValue rest → IsValue (characters_before cs rest)
characters_value [] rest all is = is
characters_value (c ∷ cs) rest all is = (all.0, characters_value cs rest all.1 is)

abbrev IsFieldsOfValue : Fields → Type 0
IsFieldsOfValue all = LabelsRise None all × AreValues all

one_more : (label : Name) (value : Thing) (others : Fields) → IsLabel label → IsValue value → Lacks label others → IsFieldsOfValue others
    → IsFieldsOfValue (with_field label value others)
one_more label value others named is lacks are = (rises None label value others tt are.0 lacks, with_value label value others named is are.1)

parted : (first second : List Token) → AreSound (first ++ second) → AreSound first × AreSound second
parted first second all = both (λ one. IsSound one.kind) first second all

mutual
  is_value : (depth : ℕ) (tokens : List Token) (value : Thing) → IsDocument depth tokens value → AreSound tokens → IsValue value
  is_value _ _ _ (document.number depth n span) all = all.0
  is_value _ _ _ (document.character depth c span) all = all.0.0
  is_value _ _ _ (document.text depth cs span) all = characters_value cs the_nil all.0 nil_value
  is_value _ _ _ (document.atom depth name span) all = all.0
  is_value _ _ _ (document.tuple depth left right tokens value parts) all =
      parts_value depth tokens value parts (parted tokens (at (token.Sign sign.CloseParenthesis) right ∷ []) all.1).0
  is_value _ _ _ (document.sequence depth left right tokens value items) all =
      items_value depth tokens value items (parted tokens (at (token.Sign sign.CloseBracket) right ∷ []) all.1).0
  is_value _ _ _ (document.fields depth left right tokens fields are) all =
      fields_value depth [] tokens fields are (parted tokens (at (token.Sign sign.CloseBrace) right ∷ []) all.1).0
  is_value _ _ _ (document.xml depth left span right tag tokens content attributes value label are is) all =
      let parts = parted tokens (at (token.Sign sign.Greater) right ∷ content) all.1.1 in
      (tt, tt, (all.1.0, label), attributes_value depth [] tokens attributes are parts.0, is_value depth content value is parts.1.1)

  parts_value : (depth : ℕ) (tokens : List Token) (value : Thing) → AreParts depth tokens value → AreSound tokens → IsValue value
  parts_value _ _ _ (document.last_part depth tokens value is) all = is_value depth tokens value is all
  parts_value _ _ _ (document.part depth comma tokens rest value others is parts) all =
      let each = parted tokens (at (token.Sign sign.Comma) comma ∷ rest) all in
      (is_value depth tokens value is each.0, parts_value depth rest others parts each.1.1)

  items_value : (depth : ℕ) (tokens : List Token) (value : Thing) → AreItems depth tokens value → AreSound tokens → IsValue value
  items_value _ _ _ (document.no_item depth) all = nil_value
  items_value _ _ _ (document.characters depth cs span rest others items) all = characters_value cs others all.0 (items_value depth rest others items all.1)
  items_value _ _ _ (document.item depth tokens rest value others is items) all =
      let each = parted tokens rest all in
      (is_value depth tokens value is each.0, items_value depth rest others items each.1)

  fields_value : (depth : ℕ) (before : List Name) (tokens : List Token) (fields : Fields) → AreFields depth before tokens fields → AreSound tokens → IsFieldsOfValue fields
  fields_value _ _ _ _ (document.no_field depth before) all = (tt, tt)
  fields_value _ _ _ _ (document.field depth before label span equal tokens rest value others other new is are) all =
      let each = parted tokens rest all.1.1 in
      one_more label value others (all.0, other) (is_value depth tokens value is each.0)
      (more_lack depth (label ∷ before) rest others are label (itself_among label before)) (more_value depth (label ∷ before) rest others are each.1)

  more_value : (depth : ℕ) (before : List Name) (tokens : List Token) (fields : Fields) → AreMoreFields depth before tokens fields → AreSound tokens → IsFieldsOfValue fields
  more_value _ _ _ _ (document.no_more depth before) all = (tt, tt)
  more_value _ _ _ _ (document.semicolon depth before span tokens fields are) all = fields_value depth before tokens fields are all.1

  attributes_value : (depth : ℕ) (before : List Name) (tokens : List Token) (fields : Fields) → AreAttributes depth before tokens fields → AreSound tokens → IsFieldsOfValue fields
  attributes_value _ _ _ _ (document.no_attribute depth before) all = (tt, tt)
  attributes_value _ _ _ _ (document.attribute depth before label span equal tokens mark rest value others other new is marked are) all =
      let each = parted tokens (mark ++ rest) all.1.1 in
      one_more label value others (all.0, other) (is_value depth tokens value is each.0)
      (attributes_lack depth (label ∷ before) rest others are label (itself_among label before))
      (attributes_value depth (label ∷ before) rest others are (parted mark rest each.1).1)

pub spelled_value : (depth : ℕ) (text : List ℕ) (tokens : List Token) (value : Thing) → AllOf IsScalar text → Lexes false 0 text tokens → IsDocument depth tokens value → IsValue value
spelled_value depth text tokens value all lexes is = is_value depth tokens value is (spelled_sound false 0 text tokens lexes all)
