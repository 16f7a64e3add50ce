-- What the machine reads the grammar derives.
use Rattle.std.proofs.Common.{◌≡◌, ◌≢◌, ◌∙◌, sym, ap, refl, subst, ℕ, zero, suc, ◌+◌, ◌<◌, Bool, true, false, not, List, [], ◌∷◌, ◌++◌, ◌⊎◌, inl, inr, length, append_assoc, append-nil, Some, None, Ok, Err, arith}
use Rattle.std.proofs.lemmas.Bool.Decides.{nat_tests}
use Rattle.std.specs.Prelude.{nat_lt, if◌then◌else◌, codes}
use Rattle.cd_syntax.specs.declared.sign.Sign.TheVariants as sign
use Rattle.cd_syntax.specs.declared.tokens.Span.{Span}
use Rattle.cd_syntax.specs.declared.tokens.Token.{Token}
use Rattle.cd_syntax.specs.declared.tokens.TokenKind.TheVariants as token
use Rattle.cd_syntax.specs.Name.{Name}
use Rattle.cd_syntax.specs.Tokens.{at}
use Rattle.cd_model.specs.Thing.{Thing, Integer, Character, Atom, Pair, Xml, Record, Fields, NoField}
use Rattle.cd_documents.specs.Document as document
use Rattle.cd_documents.specs.Document.{the_nil, characters_before, is_among, with_field, IsDocument, AreParts, AreItems, AreFields, AreMoreFields, AreAttributes}
use Rattle.cd_documents.specs.Terminal.{Terminal, Number, Text, AnAtom, Label, OpenTuple, OpenSequence, OpenRecord, OpenTag, CloseTuple, CloseRecord, CloseTag, Equal, Comma, Semicolon, NoTerminal}
use Rattle.cd_documents.specs.Machine.{Expecting, AtValue, AtItem, AfterPart, AtField, AfterField, AtTag, AtAttribute, AfterAttribute, AtEqual, Done, OpenTree, InTuple, InSequence, InRecord, InTag, InContent, State, state, start, Syntax, TooDeep, pairs, letters_onto, with_fields, put, or_wrong, step_on, run, Fits}
use Rattle.cd_documents.proofs.Terminals as seen
use Rattle.cd_documents.proofs.Terminals.{Seen, seen as seen_token}
use Rattle.cd_documents.proofs.Completing.{letters_pairs, going, close_tuple, close_sequence, close_record, close_tag, comma_at, equal_at, semicolon_at}

-- what the rest makes of a value within a form, where this is what later tokens make of the form
abbrev Later : Type 1
Later = Thing → List Token → Type 0

abbrev TupleRest : ℕ → Later → List Thing → Thing → List Token → Type 0
TupleRest r after before last rest =
    ((right : Span) × (later : List Token) × (rest ≡ close_tuple right ∷ later) × after (pairs before last) later)
    ⊎ ((comma : Span) × (right : Span) × (tokens : List Token) × (later : List Token) × (others : Thing) × (rest ≡ comma_at comma ∷ tokens ++ close_tuple right ∷ later)
    × AreParts r tokens others × after (pairs before (Pair last others)) later)

abbrev SequenceRest : ℕ → Later → List Thing → List Token → Type 0
SequenceRest r after before rest = (right : Span) × (tokens : List Token) × (later : List Token) × (others : Thing) × (rest ≡ tokens ++ close_sequence right ∷ later)
    × AreItems r tokens others × after (pairs before others) later

abbrev RecordRest : ℕ → Later → List Name → List Thing → List Token → Type 0
RecordRest r after labels values rest = (right : Span) × (tokens : List Token) × (later : List Token) × (all : Fields) × (rest ≡ tokens ++ close_record right ∷ later)
    × AreFields r labels tokens all × after (Record (with_fields labels values all)) later

abbrev RecordEndRest : ℕ → Later → List Name → List Thing → List Token → Type 0
RecordEndRest r after labels values rest = (right : Span) × (tokens : List Token) × (later : List Token) × (all : Fields) × (rest ≡ tokens ++ close_record right ∷ later)
    × AreMoreFields r labels tokens all × after (Record (with_fields labels values all)) later

abbrev TagRest : ℕ → Later → Name → List Name → List Thing → List Token → Type 0
TagRest r after tag labels values rest = (right : Span) × (tokens : List Token) × (content : List Token) × (later : List Token) × (all : Fields) × (value : Thing)
    × (rest ≡ tokens ++ (close_tag right ∷ (content ++ later))) × AreAttributes r labels tokens all × IsDocument r content value
    × after (Xml (Atom tag) (Record (with_fields labels values all)) value) later

abbrev TagEndRest : ℕ → Later → Name → List Name → List Thing → List Token → Type 0
TagEndRest r after tag labels values rest = TagRest r after tag labels values rest
    ⊎ ((mark : Span) × (later : List Token) × (rest ≡ semicolon_at mark ∷ later) × TagRest r after tag labels values later)

-- what the rest makes of a value and what is open around it, with so much room within the innermost form
abbrev After : ℕ → List OpenTree → Thing → List Token → Thing → Type 0
After r [] value rest whole = (rest ≡ []) × (value ≡ whole)
After r (InTuple before ∷ trees) value rest whole = TupleRest r (λ is later. After (suc r) trees is later whole) before value rest
After r (InSequence before ∷ trees) value rest whole = SequenceRest r (λ is later. After (suc r) trees is later whole) (value ∷ before) rest
After r (InRecord labels values ∷ trees) value rest whole = RecordEndRest r (λ is later. After (suc r) trees is later whole) labels (value ∷ values) rest
After r (InTag tag labels values ∷ trees) value rest whole = TagEndRest r (λ is later. After (suc r) trees is later whole) tag labels (value ∷ values) rest
After r (InContent tag attributes ∷ trees) value rest whole = After (suc r) trees (Xml (Atom tag) (Record attributes) value) rest whole

abbrev within : ℕ → List OpenTree → Thing → Later
within r trees whole = λ is later. After (suc r) trees is later whole

abbrev Hole : ℕ → List OpenTree → List Token → Thing → Type 0
Hole r trees tokens whole = (inner : List Token) × (later : List Token) × (value : Thing) × (tokens ≡ inner ++ later) × IsDocument r inner value × After r trees value later whole

abbrev NamedRest : ℕ → List OpenTree → Name → List Name → List Thing → List Token → Thing → Type 0
NamedRest r trees tag labels values tokens whole = (name : Name) × (span : Span) × (later : List Token) × (name ≢ codes "_") × (tokens ≡ at (token.Word name) span ∷ later)
    × TagRest r (within r trees whole) name labels values later

abbrev EqualRest : ℕ → List OpenTree → List Token → Thing → Type 0
EqualRest r trees tokens whole = (equal : Span) × (later : List Token) × (tokens ≡ equal_at equal ∷ later) × Hole r trees later whole

abbrev RestAt : ℕ → Expecting → List OpenTree → List Token → Thing → Type 0
RestAt r AtValue trees tokens whole = Hole r trees tokens whole
RestAt r AtItem (InSequence before ∷ trees) tokens whole = SequenceRest r (within r trees whole) before tokens
RestAt r AtItem trees tokens whole = Unit {0}
RestAt r AfterPart (InTuple (last ∷ before) ∷ trees) tokens whole = TupleRest r (within r trees whole) before last tokens
RestAt r AfterPart trees tokens whole = Unit {0}
RestAt r AtField (InRecord labels values ∷ trees) tokens whole = RecordRest r (within r trees whole) labels values tokens
RestAt r AtField trees tokens whole = Unit {0}
RestAt r AfterField (InRecord labels values ∷ trees) tokens whole = RecordEndRest r (within r trees whole) labels values tokens
RestAt r AfterField trees tokens whole = Unit {0}
RestAt r AtTag (InTag tag labels values ∷ trees) tokens whole = NamedRest r trees tag labels values tokens whole
RestAt r AtTag trees tokens whole = Unit {0}
RestAt r AtAttribute (InTag tag labels values ∷ trees) tokens whole = TagRest r (within r trees whole) tag labels values tokens
RestAt r AtAttribute trees tokens whole = Unit {0}
RestAt r AfterAttribute (InTag tag labels values ∷ trees) tokens whole = TagEndRest r (within r trees whole) tag labels values tokens
RestAt r AfterAttribute trees tokens whole = Unit {0}
RestAt r AtEqual trees tokens whole = EqualRest r trees tokens whole
RestAt r (Done value) trees tokens whole = (tokens ≡ []) × (value ≡ whole)

-- what was opened, and what was labelled
opened_by : (b : Bool) (most : ℕ) (trees : List OpenTree) (from : ℕ) (next : State) (tokens : List Token) (whole : Thing) → nat_lt (length trees) most ≡ b
    → going most tokens (if not b then Err (TooDeep from) else Ok next) ≡ Ok (Some whole)
    → (length trees < most) × (run most next tokens ≡ Ok (Some whole))
opened_by true most trees from next tokens whole lt h = (grind (arith, nat_tests), h)
opened_by false most trees from next tokens whole lt h = absurd (cc h)

opened_in : (most : ℕ) (trees : List OpenTree) (from : ℕ) (next : State) (tokens : List Token) (whole : Thing)
    → going most tokens (if not (nat_lt (length trees) most) then Err (TooDeep from) else Ok next) ≡ Ok (Some whole)
    → (length trees < most) × (run most next tokens ≡ Ok (Some whole))
opened_in most trees from next tokens whole h = opened_by (nat_lt (length trees) most) most trees from next tokens whole refl h

named_by : (b : Bool) (most from : ℕ) (next : State) (tokens : List Token) (whole : Thing)
    → going most tokens (or_wrong from (if b then None else Some next)) ≡ Ok (Some whole)
    → (b ≡ false) × (run most next tokens ≡ Ok (Some whole))
named_by true most from next tokens whole h = absurd (cc h)
named_by false most from next tokens whole h = (refl, h)

-- forms are made
abbrev open_tuple : Span → Token
open_tuple = at (token.Sign sign.OpenParenthesis)

tuple_made : (r : ℕ) (trees : List OpenTree) (left : Span) (tokens : List Token) (whole : Thing) → Hole r (InTuple [] ∷ trees) tokens whole
    → Hole (suc r) trees (open_tuple left ∷ tokens) whole
tuple_made r trees left tokens whole (inner, later, value, is, derives, inl (right, last, ends, after)) = (
  open_tuple left ∷ inner ++ close_tuple right ∷ [],
  last,
  value,
  ap (λ rest. open_tuple left ∷ rest) (is ∙ ap (λ rest. inner ++ rest) ends ∙ sym (append_assoc inner (close_tuple right ∷ []) last)),
  document.tuple r left right inner value (document.last_part r inner value derives),
  after,
)
tuple_made r trees left tokens whole (inner, later, value, is, derives, inr (comma, right, more, last, others, ends, parts, after)) = (
  open_tuple left ∷ (inner ++ comma_at comma ∷ more) ++ close_tuple right ∷ [],
  last,
  Pair value others,
  ap (λ rest. open_tuple left ∷ rest) (is ∙ ap (λ rest. inner ++ rest) ends ∙ sym (append_assoc inner (comma_at comma ∷ more) (close_tuple right ∷ last))
      ∙ sym (append_assoc (inner ++ comma_at comma ∷ more) (close_tuple right ∷ []) last)),
  document.tuple r left right (inner ++ comma_at comma ∷ more) (Pair value others) (document.part r comma inner more value others derives parts),
  after,
)

part_made : (r : ℕ) (after : Later) (before : List Thing) (first : Thing) (comma : Span) (tokens : List Token)
    → ((inner : List Token) × (later : List Token) × (value : Thing) × (tokens ≡ inner ++ later) × IsDocument r inner value × TupleRest r after (first ∷ before) value later)
    → TupleRest r after before first (comma_at comma ∷ tokens)
part_made r after before first comma tokens (inner, later, value, is, derives, inl (right, last, ends, closed)) =
    inr (comma, right, inner, last, value, ap (λ rest. comma_at comma ∷ rest) (is ∙ ap (λ rest. inner ++ rest) ends), document.last_part r inner value derives, closed)
part_made r after before first comma tokens (inner, later, value, is, derives, inr (next, right, more, last, others, ends, parts, closed)) =
    inr (
      comma,
      right,
      inner ++ comma_at next ∷ more,
      last,
      Pair value others,
      ap (λ rest. comma_at comma ∷ rest) (is ∙ ap (λ rest. inner ++ rest) ends ∙ sym (append_assoc inner (comma_at next ∷ more) (close_tuple right ∷ last))),
      document.part r next inner more value others derives parts,
      closed,
    )

sequence_made : (r : ℕ) (trees : List OpenTree) (left : Span) (tokens : List Token) (whole : Thing) → SequenceRest r (within r trees whole) [] tokens
    → Hole (suc r) trees (at (token.Sign sign.OpenBracket) left ∷ tokens) whole
sequence_made r trees left tokens whole (right, inner, later, others, is, items, after) = (
  at (token.Sign sign.OpenBracket) left ∷ inner ++ close_sequence right ∷ [],
  later,
  others,
  ap (λ rest. at (token.Sign sign.OpenBracket) left ∷ rest) (is ∙ sym (append_assoc inner (close_sequence right ∷ []) later)),
  document.sequence r left right inner others items,
  after,
)

letters_made : (r : ℕ) (after : Later) (before : List Thing) (cs : List ℕ) (span : Span) (tokens : List Token) → SequenceRest r after (letters_onto cs before) tokens
    → SequenceRest r after before (at (token.Chars cs) span ∷ tokens)
letters_made r after before cs span tokens (right, inner, later, others, is, items, closed) = (
  right,
  at (token.Chars cs) span ∷ inner,
  later,
  characters_before cs others,
  ap (λ rest. at (token.Chars cs) span ∷ rest) is,
  document.characters r cs span inner others items,
  subst (λ value. after value later) (letters_pairs cs before others) closed,
)

item_made : (r : ℕ) (after : Later) (before : List Thing) (tokens : List Token)
    → ((inner : List Token) × (later : List Token) × (value : Thing) × (tokens ≡ inner ++ later) × IsDocument r inner value × SequenceRest r after (value ∷ before) later)
    → SequenceRest r after before tokens
item_made r after before tokens (inner, later, value, is, derives, (right, more, last, others, ends, items, closed)) = (
  right,
  inner ++ more,
  last,
  Pair value others,
  is ∙ ap (λ rest. inner ++ rest) ends ∙ sym (append_assoc inner more (close_sequence right ∷ last)),
  document.item r inner more value others derives items,
  closed,
)

record_made : (r : ℕ) (trees : List OpenTree) (left : Span) (tokens : List Token) (whole : Thing) → RecordRest r (within r trees whole) [] [] tokens
    → Hole (suc r) trees (at (token.Sign sign.OpenBrace) left ∷ tokens) whole
record_made r trees left tokens whole (right, inner, later, all, is, fields, after) = (
  at (token.Sign sign.OpenBrace) left ∷ inner ++ close_record right ∷ [],
  later,
  Record all,
  ap (λ rest. at (token.Sign sign.OpenBrace) left ∷ rest) (is ∙ sym (append_assoc inner (close_record right ∷ []) later)),
  document.fields r left right inner all fields,
  after,
)

field_made : (r : ℕ) (after : Later) (label : Name) (span : Span) (labels : List Name) (values : List Thing) (tokens : List Token)
    → label ≢ codes "_" → is_among label labels ≡ false
    → ((equal : Span) × (later : List Token) × (tokens ≡ equal_at equal ∷ later) × ((inner : List Token) × (rest : List Token) × (value : Thing) × (later ≡ inner ++ rest)
    × IsDocument r inner value × RecordEndRest r after (label ∷ labels) (value ∷ values) rest))
    → RecordRest r after labels values (at (token.Word label) span ∷ tokens)
field_made r after label span labels values tokens other new (equal, later, equals, (inner, rest, value, is, derives, (right, more, last, all, ends, fields, closed))) = (
  right,
  at (token.Word label) span ∷ equal_at equal ∷ inner ++ more,
  last,
  with_field label value all,
  ap (λ all. at (token.Word label) span ∷ all) (equals ∙ ap (λ all. equal_at equal ∷ all) (is ∙ ap (λ all. inner ++ all) ends ∙ sym (append_assoc inner more (close_record right ∷ last)))),
  document.field r labels label span equal inner more value all other new derives fields,
  closed,
)

fields_go_on : (r : ℕ) (after : Later) (labels : List Name) (values : List Thing) (span : Span) (tokens : List Token) → RecordRest r after labels values tokens
    → RecordEndRest r after labels values (semicolon_at span ∷ tokens)
fields_go_on r after labels values span tokens (right, inner, later, all, is, fields, closed) =
    (right, semicolon_at span ∷ inner, later, all, ap (λ rest. semicolon_at span ∷ rest) is, document.semicolon r labels span inner all fields, closed)

xml_made : (r : ℕ) (trees : List OpenTree) (left : Span) (tokens : List Token) (whole : Thing) → NamedRest r trees [] [] [] tokens whole
    → Hole (suc r) trees (at (token.Sign sign.Less) left ∷ tokens) whole
xml_made r trees left tokens whole (tag, span, rest, other, named, (right, inner, content, later, all, value, is, attributes, derives, after)) = (
  at (token.Sign sign.Less) left ∷ at (token.Word tag) span ∷ inner ++ close_tag right ∷ content,
  later,
  Xml (Atom tag) (Record all) value,
  ap (λ all. at (token.Sign sign.Less) left ∷ all) (named ∙ ap (λ all. at (token.Word tag) span ∷ all) (is ∙ sym (append_assoc inner (close_tag right ∷ content) later))),
  document.xml r left span right tag inner content all value other attributes derives,
  after,
)

attribute_made : (r : ℕ) (after : Later) (tag label : Name) (span : Span) (labels : List Name) (values : List Thing) (tokens : List Token)
    → label ≢ codes "_" → is_among label labels ≡ false
    → ((equal : Span) × (later : List Token) × (tokens ≡ equal_at equal ∷ later) × ((inner : List Token) × (rest : List Token) × (value : Thing) × (later ≡ inner ++ rest)
    × IsDocument r inner value × TagEndRest r after tag (label ∷ labels) (value ∷ values) rest))
    → TagRest r after tag labels values (at (token.Word label) span ∷ tokens)
attribute_made r after tag label span labels values tokens other new (equal, later, equals, (inner, rest, value, is, derives, inl (right, more, content, last, all, body, ends, attributes, written, closed))) = (
  right,
  at (token.Word label) span ∷ equal_at equal ∷ inner ++ more,
  content,
  last,
  with_field label value all,
  body,
  ap (λ all. at (token.Word label) span ∷ all) (equals ∙ ap (λ all. equal_at equal ∷ all) (is ∙ ap (λ all. inner ++ all) ends ∙ sym (append_assoc inner more (close_tag right ∷ (content ++ last))))),
  document.attribute r labels label span equal inner [] more value all other new derives document.no_semicolon attributes,
  written,
  closed,
)
attribute_made r after tag label span labels values tokens other new (equal, later, equals, (inner, rest, value, is, derives, inr (mark, past, marked, (right, more, content, last, all, body, ends, attributes, written, closed)))) = (
  right,
  at (token.Word label) span ∷ equal_at equal ∷ inner ++ semicolon_at mark ∷ more,
  content,
  last,
  with_field label value all,
  body,
  ap (λ all. at (token.Word label) span ∷ all) (equals ∙ ap (λ all. equal_at equal ∷ all) (is ∙ ap (λ all. inner ++ all) (marked ∙ ap (λ all. semicolon_at mark ∷ all) ends)
      ∙ sym (append_assoc inner (semicolon_at mark ∷ more) (close_tag right ∷ (content ++ last))))),
  document.attribute r labels label span equal inner (semicolon_at mark ∷ []) more value all other new derives (document.one_semicolon mark) attributes,
  written,
  closed,
)

module _ (most : ℕ) where
  abbrev On : List Token → Type 0
  On tokens = (r : ℕ) (expecting : Expecting) (trees : List OpenTree) (whole : Thing) → r + length trees ≡ most → Fits expecting trees
      → run most (state expecting trees) tokens ≡ Ok (Some whole) → RestAt r expecting trees tokens whole

  -- the run over a token, by what it is
  abbrev Runs : Expecting → List OpenTree → Token → Terminal → List Token → Thing → Type 0
  Runs expecting trees one is tokens whole = going most tokens (step_on most (state expecting trees) one.span.from is) ≡ Ok (Some whole)

  put_rest : (tokens : List Token) → On tokens → (r : ℕ) (trees : List OpenTree) (value whole : Thing) → r + length trees ≡ most
      → run most (put value trees) tokens ≡ Ok (Some whole) → After r trees value tokens whole
  put_rest tokens on r [] value whole room h = on r (Done value) [] whole room tt h
  put_rest tokens on r (InTuple before ∷ trees) value whole room h = on r AfterPart (InTuple (value ∷ before) ∷ trees) whole room tt h
  put_rest tokens on r (InSequence before ∷ trees) value whole room h = on r AtItem (InSequence (value ∷ before) ∷ trees) whole room tt h
  put_rest tokens on r (InRecord labels values ∷ trees) value whole room h = on r AfterField (InRecord labels (value ∷ values) ∷ trees) whole room tt h
  put_rest tokens on r (InTag tag labels values ∷ trees) value whole room h = on r AfterAttribute (InTag tag labels (value ∷ values) ∷ trees) whole room tt h
  put_rest tokens on r (InContent tag attributes ∷ trees) value whole room h =
      put_rest tokens on (suc r) trees (Xml (Atom tag) (Record attributes) value) whole (omega (arith, room)) h

  begun : (one : Token) (is : Terminal) → Seen one is → (tokens : List Token) → On tokens → (r : ℕ) (trees : List OpenTree) (whole : Thing) → r + length trees ≡ most
      → Runs AtValue trees one is tokens whole → Hole r trees (one ∷ tokens) whole
  begun _ _ (seen.number n span) tokens on r trees whole room h =
      (at (token.Int n) span ∷ [], tokens, Integer n, refl, document.number r n span, put_rest tokens on r trees (Integer n) whole room h)
  begun _ _ (seen.letters [] span) tokens on r trees whole room h = absurd (cc h)
  begun _ _ (seen.letters (c ∷ []) span) tokens on r trees whole room h =
      (at (token.Chars (c ∷ [])) span ∷ [], tokens, Character c, refl, document.character r c span, put_rest tokens on r trees (Character c) whole room h)
  begun _ _ (seen.letters (c ∷ d ∷ cs) span) tokens on r trees whole room h = absurd (cc h)
  begun _ _ (seen.text cs span) tokens on r trees whole room h =
      (at (token.Text cs) span ∷ [], tokens, characters_before cs the_nil, refl, document.text r cs span, put_rest tokens on r trees (characters_before cs the_nil) whole room h)
  begun _ _ (seen.atom name span) tokens on r trees whole room h =
      (at (token.Atom name) span ∷ [], tokens, Atom name, refl, document.atom r name span, put_rest tokens on r trees (Atom name) whole room h)
  begun _ _ (seen.open_tuple span) tokens on zero trees whole room h =
      let open_at = opened_in most trees span.from (state AtValue (InTuple [] ∷ trees)) tokens whole h in absurd (omega (arith, room, open_at.0))
  begun _ _ (seen.open_tuple span) tokens on (suc r) trees whole room h =
      let open_at = opened_in most trees span.from (state AtValue (InTuple [] ∷ trees)) tokens whole h in
      tuple_made r trees span tokens whole (on r AtValue (InTuple [] ∷ trees) whole (omega (arith, room)) tt open_at.1)
  begun _ _ (seen.open_sequence span) tokens on zero trees whole room h =
      let open_at = opened_in most trees span.from (state AtItem (InSequence [] ∷ trees)) tokens whole h in absurd (omega (arith, room, open_at.0))
  begun _ _ (seen.open_sequence span) tokens on (suc r) trees whole room h =
      let open_at = opened_in most trees span.from (state AtItem (InSequence [] ∷ trees)) tokens whole h in
      sequence_made r trees span tokens whole (on r AtItem (InSequence [] ∷ trees) whole (omega (arith, room)) tt open_at.1)
  begun _ _ (seen.open_record span) tokens on zero trees whole room h =
      let open_at = opened_in most trees span.from (state AtField (InRecord [] [] ∷ trees)) tokens whole h in absurd (omega (arith, room, open_at.0))
  begun _ _ (seen.open_record span) tokens on (suc r) trees whole room h =
      let open_at = opened_in most trees span.from (state AtField (InRecord [] [] ∷ trees)) tokens whole h in
      record_made r trees span tokens whole (on r AtField (InRecord [] [] ∷ trees) whole (omega (arith, room)) tt open_at.1)
  begun _ _ (seen.open_tag span) tokens on zero trees whole room h =
      let open_at = opened_in most trees span.from (state AtTag (InTag [] [] [] ∷ trees)) tokens whole h in absurd (omega (arith, room, open_at.0))
  begun _ _ (seen.open_tag span) tokens on (suc r) trees whole room h =
      let open_at = opened_in most trees span.from (state AtTag (InTag [] [] [] ∷ trees)) tokens whole h in
      xml_made r trees span tokens whole (on r AtTag (InTag [] [] [] ∷ trees) whole (omega (arith, room)) tt open_at.1)
  begun _ _ (seen.label name span other) tokens on r trees whole room h = absurd (cc h)
  begun _ _ (seen.close_tuple span) tokens on r trees whole room h = absurd (cc h)
  begun _ _ (seen.close_sequence span) tokens on r trees whole room h = absurd (cc h)
  begun _ _ (seen.close_record span) tokens on r trees whole room h = absurd (cc h)
  begun _ _ (seen.close_tag span) tokens on r trees whole room h = absurd (cc h)
  begun _ _ (seen.equal span) tokens on r trees whole room h = absurd (cc h)
  begun _ _ (seen.comma span) tokens on r trees whole room h = absurd (cc h)
  begun _ _ (seen.semicolon span) tokens on r trees whole room h = absurd (cc h)
  begun _ _ (seen.other token) tokens on r trees whole room h = absurd (cc h)

  -- an opening bracket where none can stand
  not_here : (b : Bool) (from : ℕ) (tokens : List Token) (whole : Thing)
      → going most tokens (if b then Err (TooDeep from) else Err (Syntax from)) ≡ Ok (Some whole) → ⊥
  not_here true from tokens whole h = cc h
  not_here false from tokens whole h = cc h

  attributed : (one : Token) (is : Terminal) → Seen one is → (tokens : List Token) → On tokens → (r : ℕ) (tag : Name) (labels : List Name) (values : List Thing) (trees : List OpenTree) (whole : Thing)
      → r + suc (length trees) ≡ most → Runs AtAttribute (InTag tag labels values ∷ trees) one is tokens whole
      → TagRest r (within r trees whole) tag labels values (one ∷ tokens)
  attributed _ _ (seen.number n span) tokens on r tag labels values trees whole room h = absurd (cc h)
  attributed _ _ (seen.letters cs span) tokens on r tag labels values trees whole room h = absurd (cc h)
  attributed _ _ (seen.text cs span) tokens on r tag labels values trees whole room h = absurd (cc h)
  attributed _ _ (seen.atom name span) tokens on r tag labels values trees whole room h = absurd (cc h)
  attributed _ _ (seen.label name span other) tokens on r tag labels values trees whole room h =
      let next = state AtEqual (InTag tag (name ∷ labels) values ∷ trees) in
      let named = named_by (is_among name labels) most span.from next tokens whole h in
      attribute_made r (within r trees whole) tag name span labels values tokens other named.0 (on r AtEqual (InTag tag (name ∷ labels) values ∷ trees) whole room tt named.1)
  attributed _ _ (seen.open_tuple span) tokens on r tag labels values trees whole room h = absurd (not_here (not (nat_lt (length (InTag tag labels values ∷ trees)) most)) span.from tokens whole h)
  attributed _ _ (seen.close_tuple span) tokens on r tag labels values trees whole room h = absurd (cc h)
  attributed _ _ (seen.open_sequence span) tokens on r tag labels values trees whole room h = absurd (not_here (not (nat_lt (length (InTag tag labels values ∷ trees)) most)) span.from tokens whole h)
  attributed _ _ (seen.close_sequence span) tokens on r tag labels values trees whole room h = absurd (cc h)
  attributed _ _ (seen.open_record span) tokens on r tag labels values trees whole room h = absurd (not_here (not (nat_lt (length (InTag tag labels values ∷ trees)) most)) span.from tokens whole h)
  attributed _ _ (seen.close_record span) tokens on r tag labels values trees whole room h = absurd (cc h)
  attributed _ _ (seen.open_tag span) tokens on r tag labels values trees whole room h = absurd (not_here (not (nat_lt (length (InTag tag labels values ∷ trees)) most)) span.from tokens whole h)
  attributed _ _ (seen.close_tag span) tokens on r tag labels values trees whole room h =
      let found = on r AtValue (InContent tag (with_fields labels values NoField) ∷ trees) whole room tt h in
      (span, [], found.0, found.1, NoField, found.2, ap (λ all. close_tag span ∷ all) found.3, document.no_attribute r labels, found.4, found.5)
  attributed _ _ (seen.equal span) tokens on r tag labels values trees whole room h = absurd (cc h)
  attributed _ _ (seen.comma span) tokens on r tag labels values trees whole room h = absurd (cc h)
  attributed _ _ (seen.semicolon span) tokens on r tag labels values trees whole room h = absurd (cc h)
  attributed _ _ (seen.other token) tokens on r tag labels values trees whole room h = absurd (cc h)

  fielded : (one : Token) (is : Terminal) → Seen one is → (tokens : List Token) → On tokens → (r : ℕ) (labels : List Name) (values : List Thing) (trees : List OpenTree) (whole : Thing)
      → r + suc (length trees) ≡ most → Runs AtField (InRecord labels values ∷ trees) one is tokens whole
      → RecordRest r (within r trees whole) labels values (one ∷ tokens)
  fielded _ _ (seen.number n span) tokens on r labels values trees whole room h = absurd (cc h)
  fielded _ _ (seen.letters cs span) tokens on r labels values trees whole room h = absurd (cc h)
  fielded _ _ (seen.text cs span) tokens on r labels values trees whole room h = absurd (cc h)
  fielded _ _ (seen.atom name span) tokens on r labels values trees whole room h = absurd (cc h)
  fielded _ _ (seen.label name span other) tokens on r labels values trees whole room h =
      let next = state AtEqual (InRecord (name ∷ labels) values ∷ trees) in
      let named = named_by (is_among name labels) most span.from next tokens whole h in
      field_made r (within r trees whole) name span labels values tokens other named.0 (on r AtEqual (InRecord (name ∷ labels) values ∷ trees) whole room tt named.1)
  fielded _ _ (seen.open_tuple span) tokens on r labels values trees whole room h = absurd (not_here (not (nat_lt (length (InRecord labels values ∷ trees)) most)) span.from tokens whole h)
  fielded _ _ (seen.close_tuple span) tokens on r labels values trees whole room h = absurd (cc h)
  fielded _ _ (seen.open_sequence span) tokens on r labels values trees whole room h = absurd (not_here (not (nat_lt (length (InRecord labels values ∷ trees)) most)) span.from tokens whole h)
  fielded _ _ (seen.close_sequence span) tokens on r labels values trees whole room h = absurd (cc h)
  fielded _ _ (seen.open_record span) tokens on r labels values trees whole room h = absurd (not_here (not (nat_lt (length (InRecord labels values ∷ trees)) most)) span.from tokens whole h)
  fielded _ _ (seen.close_record span) tokens on r labels values trees whole room h = (
    span,
    [],
    tokens,
    NoField,
    refl,
    document.no_field r labels,
    put_rest tokens on (suc r) trees (Record (with_fields labels values NoField)) whole (omega (arith, room)) h,
  )
  fielded _ _ (seen.open_tag span) tokens on r labels values trees whole room h = absurd (not_here (not (nat_lt (length (InRecord labels values ∷ trees)) most)) span.from tokens whole h)
  fielded _ _ (seen.close_tag span) tokens on r labels values trees whole room h = absurd (cc h)
  fielded _ _ (seen.equal span) tokens on r labels values trees whole room h = absurd (cc h)
  fielded _ _ (seen.comma span) tokens on r labels values trees whole room h = absurd (cc h)
  fielded _ _ (seen.semicolon span) tokens on r labels values trees whole room h = absurd (cc h)
  fielded _ _ (seen.other token) tokens on r labels values trees whole room h = absurd (cc h)

  stepped : (one : Token) (is : Terminal) → Seen one is → (tokens : List Token) → On tokens → (r : ℕ) (expecting : Expecting) (trees : List OpenTree) (whole : Thing)
      → r + length trees ≡ most → Fits expecting trees → Runs expecting trees one is tokens whole → RestAt r expecting trees (one ∷ tokens) whole
  stepped one is view tokens on r AtValue trees whole room fits h = begun one is view tokens on r trees whole room h
  stepped one is view tokens on r AtAttribute (InTag tag labels values ∷ trees) whole room fits h = attributed one is view tokens on r tag labels values trees whole room h
  stepped one is view tokens on r AtField (InRecord labels values ∷ trees) whole room fits h = fielded one is view tokens on r labels values trees whole room h
  stepped _ _ (seen.number n span) tokens on r AtItem (InSequence before ∷ trees) whole room fits h =
      item_made r (within r trees whole) before (at (token.Int n) span ∷ tokens) (begun (at (token.Int n) span) (Number n) (seen.number n span) tokens on r (InSequence before ∷ trees) whole room h)
  stepped _ _ (seen.letters cs span) tokens on r AtItem (InSequence before ∷ trees) whole room fits h =
      letters_made r (within r trees whole) before cs span tokens (on r AtItem (InSequence (letters_onto cs before) ∷ trees) whole room tt h)
  stepped _ _ (seen.text cs span) tokens on r AtItem (InSequence before ∷ trees) whole room fits h =
      item_made r (within r trees whole) before (at (token.Text cs) span ∷ tokens) (begun (at (token.Text cs) span) (Text cs) (seen.text cs span) tokens on r (InSequence before ∷ trees) whole room h)
  stepped _ _ (seen.atom name span) tokens on r AtItem (InSequence before ∷ trees) whole room fits h =
      item_made r (within r trees whole) before (at (token.Atom name) span ∷ tokens) (begun (at (token.Atom name) span) (AnAtom name) (seen.atom name span) tokens on r (InSequence before ∷ trees) whole room h)
  stepped _ _ (seen.label name span other) tokens on r AtItem (InSequence before ∷ trees) whole room fits h =
      item_made r (within r trees whole) before (at (token.Word name) span ∷ tokens) (begun (at (token.Word name) span) (Label name) (seen.label name span other) tokens on r (InSequence before ∷ trees) whole room h)
  stepped _ _ (seen.open_tuple span) tokens on r AtItem (InSequence before ∷ trees) whole room fits h =
      item_made r (within r trees whole) before (at (token.Sign sign.OpenParenthesis) span ∷ tokens) (begun (at (token.Sign sign.OpenParenthesis) span) (OpenTuple) (seen.open_tuple span) tokens on r (InSequence before ∷ trees) whole room h)
  stepped _ _ (seen.close_tuple span) tokens on r AtItem (InSequence before ∷ trees) whole room fits h =
      item_made r (within r trees whole) before (at (token.Sign sign.CloseParenthesis) span ∷ tokens) (begun (at (token.Sign sign.CloseParenthesis) span) (CloseTuple) (seen.close_tuple span) tokens on r (InSequence before ∷ trees) whole room h)
  stepped _ _ (seen.open_sequence span) tokens on r AtItem (InSequence before ∷ trees) whole room fits h =
      item_made r (within r trees whole) before (at (token.Sign sign.OpenBracket) span ∷ tokens) (begun (at (token.Sign sign.OpenBracket) span) (OpenSequence) (seen.open_sequence span) tokens on r (InSequence before ∷ trees) whole room h)
  stepped _ _ (seen.close_sequence span) tokens on r AtItem (InSequence before ∷ trees) whole room fits h =
      (span, [], tokens, the_nil, refl, document.no_item r, put_rest tokens on (suc r) trees (pairs before the_nil) whole (omega (arith, room)) h)
  stepped _ _ (seen.open_record span) tokens on r AtItem (InSequence before ∷ trees) whole room fits h =
      item_made r (within r trees whole) before (at (token.Sign sign.OpenBrace) span ∷ tokens) (begun (at (token.Sign sign.OpenBrace) span) (OpenRecord) (seen.open_record span) tokens on r (InSequence before ∷ trees) whole room h)
  stepped _ _ (seen.close_record span) tokens on r AtItem (InSequence before ∷ trees) whole room fits h =
      item_made r (within r trees whole) before (at (token.Sign sign.CloseBrace) span ∷ tokens) (begun (at (token.Sign sign.CloseBrace) span) (CloseRecord) (seen.close_record span) tokens on r (InSequence before ∷ trees) whole room h)
  stepped _ _ (seen.open_tag span) tokens on r AtItem (InSequence before ∷ trees) whole room fits h =
      item_made r (within r trees whole) before (at (token.Sign sign.Less) span ∷ tokens) (begun (at (token.Sign sign.Less) span) (OpenTag) (seen.open_tag span) tokens on r (InSequence before ∷ trees) whole room h)
  stepped _ _ (seen.close_tag span) tokens on r AtItem (InSequence before ∷ trees) whole room fits h =
      item_made r (within r trees whole) before (at (token.Sign sign.Greater) span ∷ tokens) (begun (at (token.Sign sign.Greater) span) (CloseTag) (seen.close_tag span) tokens on r (InSequence before ∷ trees) whole room h)
  stepped _ _ (seen.equal span) tokens on r AtItem (InSequence before ∷ trees) whole room fits h =
      item_made r (within r trees whole) before (at (token.Sign sign.Equal) span ∷ tokens) (begun (at (token.Sign sign.Equal) span) (Equal) (seen.equal span) tokens on r (InSequence before ∷ trees) whole room h)
  stepped _ _ (seen.comma span) tokens on r AtItem (InSequence before ∷ trees) whole room fits h =
      item_made r (within r trees whole) before (at (token.Sign sign.Comma) span ∷ tokens) (begun (at (token.Sign sign.Comma) span) (Comma) (seen.comma span) tokens on r (InSequence before ∷ trees) whole room h)
  stepped _ _ (seen.semicolon span) tokens on r AtItem (InSequence before ∷ trees) whole room fits h =
      item_made r (within r trees whole) before (at (token.Sign sign.Semicolon) span ∷ tokens) (begun (at (token.Sign sign.Semicolon) span) (Semicolon) (seen.semicolon span) tokens on r (InSequence before ∷ trees) whole room h)
  stepped _ _ (seen.other token) tokens on r AtItem (InSequence before ∷ trees) whole room fits h =
      item_made r (within r trees whole) before (token ∷ tokens) (begun (token) (NoTerminal) (seen.other token) tokens on r (InSequence before ∷ trees) whole room h)
  stepped _ _ (seen.number n span) tokens on r AfterPart (InTuple (last ∷ before) ∷ trees) whole room fits h = absurd (cc h)
  stepped _ _ (seen.letters cs span) tokens on r AfterPart (InTuple (last ∷ before) ∷ trees) whole room fits h = absurd (cc h)
  stepped _ _ (seen.text cs span) tokens on r AfterPart (InTuple (last ∷ before) ∷ trees) whole room fits h = absurd (cc h)
  stepped _ _ (seen.atom name span) tokens on r AfterPart (InTuple (last ∷ before) ∷ trees) whole room fits h = absurd (cc h)
  stepped _ _ (seen.label name span other) tokens on r AfterPart (InTuple (last ∷ before) ∷ trees) whole room fits h = absurd (cc h)
  stepped _ _ (seen.open_tuple span) tokens on r AfterPart (InTuple (last ∷ before) ∷ trees) whole room fits h = absurd (not_here (not (nat_lt (length (InTuple (last ∷ before) ∷ trees)) most)) span.from tokens whole h)
  stepped _ _ (seen.close_tuple span) tokens on r AfterPart (InTuple (last ∷ before) ∷ trees) whole room fits h =
      inl (span, tokens, refl, put_rest tokens on (suc r) trees (pairs before last) whole (omega (arith, room)) h)
  stepped _ _ (seen.open_sequence span) tokens on r AfterPart (InTuple (last ∷ before) ∷ trees) whole room fits h = absurd (not_here (not (nat_lt (length (InTuple (last ∷ before) ∷ trees)) most)) span.from tokens whole h)
  stepped _ _ (seen.close_sequence span) tokens on r AfterPart (InTuple (last ∷ before) ∷ trees) whole room fits h = absurd (cc h)
  stepped _ _ (seen.open_record span) tokens on r AfterPart (InTuple (last ∷ before) ∷ trees) whole room fits h = absurd (not_here (not (nat_lt (length (InTuple (last ∷ before) ∷ trees)) most)) span.from tokens whole h)
  stepped _ _ (seen.close_record span) tokens on r AfterPart (InTuple (last ∷ before) ∷ trees) whole room fits h = absurd (cc h)
  stepped _ _ (seen.open_tag span) tokens on r AfterPart (InTuple (last ∷ before) ∷ trees) whole room fits h = absurd (not_here (not (nat_lt (length (InTuple (last ∷ before) ∷ trees)) most)) span.from tokens whole h)
  stepped _ _ (seen.close_tag span) tokens on r AfterPart (InTuple (last ∷ before) ∷ trees) whole room fits h = absurd (cc h)
  stepped _ _ (seen.equal span) tokens on r AfterPart (InTuple (last ∷ before) ∷ trees) whole room fits h = absurd (cc h)
  stepped _ _ (seen.comma span) tokens on r AfterPart (InTuple (last ∷ before) ∷ trees) whole room fits h =
      part_made r (within r trees whole) before last span tokens (on r AtValue (InTuple (last ∷ before) ∷ trees) whole room tt h)
  stepped _ _ (seen.semicolon span) tokens on r AfterPart (InTuple (last ∷ before) ∷ trees) whole room fits h = absurd (cc h)
  stepped _ _ (seen.other token) tokens on r AfterPart (InTuple (last ∷ before) ∷ trees) whole room fits h = absurd (cc h)
  stepped _ _ (seen.number n span) tokens on r AfterField (InRecord labels values ∷ trees) whole room fits h = absurd (cc h)
  stepped _ _ (seen.letters cs span) tokens on r AfterField (InRecord labels values ∷ trees) whole room fits h = absurd (cc h)
  stepped _ _ (seen.text cs span) tokens on r AfterField (InRecord labels values ∷ trees) whole room fits h = absurd (cc h)
  stepped _ _ (seen.atom name span) tokens on r AfterField (InRecord labels values ∷ trees) whole room fits h = absurd (cc h)
  stepped _ _ (seen.label name span other) tokens on r AfterField (InRecord labels values ∷ trees) whole room fits h = absurd (cc h)
  stepped _ _ (seen.open_tuple span) tokens on r AfterField (InRecord labels values ∷ trees) whole room fits h = absurd (not_here (not (nat_lt (length (InRecord labels values ∷ trees)) most)) span.from tokens whole h)
  stepped _ _ (seen.close_tuple span) tokens on r AfterField (InRecord labels values ∷ trees) whole room fits h = absurd (cc h)
  stepped _ _ (seen.open_sequence span) tokens on r AfterField (InRecord labels values ∷ trees) whole room fits h = absurd (not_here (not (nat_lt (length (InRecord labels values ∷ trees)) most)) span.from tokens whole h)
  stepped _ _ (seen.close_sequence span) tokens on r AfterField (InRecord labels values ∷ trees) whole room fits h = absurd (cc h)
  stepped _ _ (seen.open_record span) tokens on r AfterField (InRecord labels values ∷ trees) whole room fits h = absurd (not_here (not (nat_lt (length (InRecord labels values ∷ trees)) most)) span.from tokens whole h)
  stepped _ _ (seen.close_record span) tokens on r AfterField (InRecord labels values ∷ trees) whole room fits h = (
    span,
    [],
    tokens,
    NoField,
    refl,
    document.no_more r labels,
    put_rest tokens on (suc r) trees (Record (with_fields labels values NoField)) whole (omega (arith, room)) h,
  )
  stepped _ _ (seen.open_tag span) tokens on r AfterField (InRecord labels values ∷ trees) whole room fits h = absurd (not_here (not (nat_lt (length (InRecord labels values ∷ trees)) most)) span.from tokens whole h)
  stepped _ _ (seen.close_tag span) tokens on r AfterField (InRecord labels values ∷ trees) whole room fits h = absurd (cc h)
  stepped _ _ (seen.equal span) tokens on r AfterField (InRecord labels values ∷ trees) whole room fits h = absurd (cc h)
  stepped _ _ (seen.comma span) tokens on r AfterField (InRecord labels values ∷ trees) whole room fits h = absurd (cc h)
  stepped _ _ (seen.semicolon span) tokens on r AfterField (InRecord labels values ∷ trees) whole room fits h =
      fields_go_on r (within r trees whole) labels values span tokens (on r AtField (InRecord labels values ∷ trees) whole room tt h)
  stepped _ _ (seen.other token) tokens on r AfterField (InRecord labels values ∷ trees) whole room fits h = absurd (cc h)
  stepped _ _ (seen.number n span) tokens on r AtTag (InTag tag labels values ∷ trees) whole room fits h = absurd (cc h)
  stepped _ _ (seen.letters cs span) tokens on r AtTag (InTag tag labels values ∷ trees) whole room fits h = absurd (cc h)
  stepped _ _ (seen.text cs span) tokens on r AtTag (InTag tag labels values ∷ trees) whole room fits h = absurd (cc h)
  stepped _ _ (seen.atom name span) tokens on r AtTag (InTag tag labels values ∷ trees) whole room fits h = absurd (cc h)
  stepped _ _ (seen.label name span other) tokens on r AtTag (InTag tag labels values ∷ trees) whole room fits h =
      (name, span, tokens, other, refl, on r AtAttribute (InTag name labels values ∷ trees) whole room tt h)
  stepped _ _ (seen.open_tuple span) tokens on r AtTag (InTag tag labels values ∷ trees) whole room fits h = absurd (not_here (not (nat_lt (length (InTag tag labels values ∷ trees)) most)) span.from tokens whole h)
  stepped _ _ (seen.close_tuple span) tokens on r AtTag (InTag tag labels values ∷ trees) whole room fits h = absurd (cc h)
  stepped _ _ (seen.open_sequence span) tokens on r AtTag (InTag tag labels values ∷ trees) whole room fits h = absurd (not_here (not (nat_lt (length (InTag tag labels values ∷ trees)) most)) span.from tokens whole h)
  stepped _ _ (seen.close_sequence span) tokens on r AtTag (InTag tag labels values ∷ trees) whole room fits h = absurd (cc h)
  stepped _ _ (seen.open_record span) tokens on r AtTag (InTag tag labels values ∷ trees) whole room fits h = absurd (not_here (not (nat_lt (length (InTag tag labels values ∷ trees)) most)) span.from tokens whole h)
  stepped _ _ (seen.close_record span) tokens on r AtTag (InTag tag labels values ∷ trees) whole room fits h = absurd (cc h)
  stepped _ _ (seen.open_tag span) tokens on r AtTag (InTag tag labels values ∷ trees) whole room fits h = absurd (not_here (not (nat_lt (length (InTag tag labels values ∷ trees)) most)) span.from tokens whole h)
  stepped _ _ (seen.close_tag span) tokens on r AtTag (InTag tag labels values ∷ trees) whole room fits h = absurd (cc h)
  stepped _ _ (seen.equal span) tokens on r AtTag (InTag tag labels values ∷ trees) whole room fits h = absurd (cc h)
  stepped _ _ (seen.comma span) tokens on r AtTag (InTag tag labels values ∷ trees) whole room fits h = absurd (cc h)
  stepped _ _ (seen.semicolon span) tokens on r AtTag (InTag tag labels values ∷ trees) whole room fits h = absurd (cc h)
  stepped _ _ (seen.other token) tokens on r AtTag (InTag tag labels values ∷ trees) whole room fits h = absurd (cc h)
  stepped _ _ (seen.number n span) tokens on r AfterAttribute (InTag tag labels values ∷ trees) whole room fits h = absurd (cc h)
  stepped _ _ (seen.letters cs span) tokens on r AfterAttribute (InTag tag labels values ∷ trees) whole room fits h = absurd (cc h)
  stepped _ _ (seen.text cs span) tokens on r AfterAttribute (InTag tag labels values ∷ trees) whole room fits h = absurd (cc h)
  stepped _ _ (seen.atom name span) tokens on r AfterAttribute (InTag tag labels values ∷ trees) whole room fits h = absurd (cc h)
  stepped _ _ (seen.label name span other) tokens on r AfterAttribute (InTag tag labels values ∷ trees) whole room fits h =
      inl (attributed (at (token.Word name) span) (Label name) (seen.label name span other) tokens on r tag labels values trees whole room h)
  stepped _ _ (seen.open_tuple span) tokens on r AfterAttribute (InTag tag labels values ∷ trees) whole room fits h = absurd (not_here (not (nat_lt (length (InTag tag labels values ∷ trees)) most)) span.from tokens whole h)
  stepped _ _ (seen.close_tuple span) tokens on r AfterAttribute (InTag tag labels values ∷ trees) whole room fits h = absurd (cc h)
  stepped _ _ (seen.open_sequence span) tokens on r AfterAttribute (InTag tag labels values ∷ trees) whole room fits h = absurd (not_here (not (nat_lt (length (InTag tag labels values ∷ trees)) most)) span.from tokens whole h)
  stepped _ _ (seen.close_sequence span) tokens on r AfterAttribute (InTag tag labels values ∷ trees) whole room fits h = absurd (cc h)
  stepped _ _ (seen.open_record span) tokens on r AfterAttribute (InTag tag labels values ∷ trees) whole room fits h = absurd (not_here (not (nat_lt (length (InTag tag labels values ∷ trees)) most)) span.from tokens whole h)
  stepped _ _ (seen.close_record span) tokens on r AfterAttribute (InTag tag labels values ∷ trees) whole room fits h = absurd (cc h)
  stepped _ _ (seen.open_tag span) tokens on r AfterAttribute (InTag tag labels values ∷ trees) whole room fits h = absurd (not_here (not (nat_lt (length (InTag tag labels values ∷ trees)) most)) span.from tokens whole h)
  stepped _ _ (seen.close_tag span) tokens on r AfterAttribute (InTag tag labels values ∷ trees) whole room fits h =
      inl (attributed (at (token.Sign sign.Greater) span) (CloseTag) (seen.close_tag span) tokens on r tag labels values trees whole room h)
  stepped _ _ (seen.equal span) tokens on r AfterAttribute (InTag tag labels values ∷ trees) whole room fits h = absurd (cc h)
  stepped _ _ (seen.comma span) tokens on r AfterAttribute (InTag tag labels values ∷ trees) whole room fits h = absurd (cc h)
  stepped _ _ (seen.semicolon span) tokens on r AfterAttribute (InTag tag labels values ∷ trees) whole room fits h =
      inr (span, tokens, refl, on r AtAttribute (InTag tag labels values ∷ trees) whole room tt h)
  stepped _ _ (seen.other token) tokens on r AfterAttribute (InTag tag labels values ∷ trees) whole room fits h = absurd (cc h)
  stepped _ _ (seen.number n span) tokens on r AtEqual (InTag tag labels values ∷ trees) whole room fits h = absurd (cc h)
  stepped _ _ (seen.letters cs span) tokens on r AtEqual (InTag tag labels values ∷ trees) whole room fits h = absurd (cc h)
  stepped _ _ (seen.text cs span) tokens on r AtEqual (InTag tag labels values ∷ trees) whole room fits h = absurd (cc h)
  stepped _ _ (seen.atom name span) tokens on r AtEqual (InTag tag labels values ∷ trees) whole room fits h = absurd (cc h)
  stepped _ _ (seen.label name span other) tokens on r AtEqual (InTag tag labels values ∷ trees) whole room fits h = absurd (cc h)
  stepped _ _ (seen.open_tuple span) tokens on r AtEqual (InTag tag labels values ∷ trees) whole room fits h = absurd (not_here (not (nat_lt (length (InTag tag labels values ∷ trees)) most)) span.from tokens whole h)
  stepped _ _ (seen.close_tuple span) tokens on r AtEqual (InTag tag labels values ∷ trees) whole room fits h = absurd (cc h)
  stepped _ _ (seen.open_sequence span) tokens on r AtEqual (InTag tag labels values ∷ trees) whole room fits h = absurd (not_here (not (nat_lt (length (InTag tag labels values ∷ trees)) most)) span.from tokens whole h)
  stepped _ _ (seen.close_sequence span) tokens on r AtEqual (InTag tag labels values ∷ trees) whole room fits h = absurd (cc h)
  stepped _ _ (seen.open_record span) tokens on r AtEqual (InTag tag labels values ∷ trees) whole room fits h = absurd (not_here (not (nat_lt (length (InTag tag labels values ∷ trees)) most)) span.from tokens whole h)
  stepped _ _ (seen.close_record span) tokens on r AtEqual (InTag tag labels values ∷ trees) whole room fits h = absurd (cc h)
  stepped _ _ (seen.open_tag span) tokens on r AtEqual (InTag tag labels values ∷ trees) whole room fits h = absurd (not_here (not (nat_lt (length (InTag tag labels values ∷ trees)) most)) span.from tokens whole h)
  stepped _ _ (seen.close_tag span) tokens on r AtEqual (InTag tag labels values ∷ trees) whole room fits h = absurd (cc h)
  stepped _ _ (seen.equal span) tokens on r AtEqual (InTag tag labels values ∷ trees) whole room fits h =
      (span, tokens, refl, on r AtValue (InTag tag labels values ∷ trees) whole room tt h)
  stepped _ _ (seen.comma span) tokens on r AtEqual (InTag tag labels values ∷ trees) whole room fits h = absurd (cc h)
  stepped _ _ (seen.semicolon span) tokens on r AtEqual (InTag tag labels values ∷ trees) whole room fits h = absurd (cc h)
  stepped _ _ (seen.other token) tokens on r AtEqual (InTag tag labels values ∷ trees) whole room fits h = absurd (cc h)
  stepped _ _ (seen.number n span) tokens on r AtEqual (InRecord labels values ∷ trees) whole room fits h = absurd (cc h)
  stepped _ _ (seen.letters cs span) tokens on r AtEqual (InRecord labels values ∷ trees) whole room fits h = absurd (cc h)
  stepped _ _ (seen.text cs span) tokens on r AtEqual (InRecord labels values ∷ trees) whole room fits h = absurd (cc h)
  stepped _ _ (seen.atom name span) tokens on r AtEqual (InRecord labels values ∷ trees) whole room fits h = absurd (cc h)
  stepped _ _ (seen.label name span other) tokens on r AtEqual (InRecord labels values ∷ trees) whole room fits h = absurd (cc h)
  stepped _ _ (seen.open_tuple span) tokens on r AtEqual (InRecord labels values ∷ trees) whole room fits h = absurd (not_here (not (nat_lt (length (InRecord labels values ∷ trees)) most)) span.from tokens whole h)
  stepped _ _ (seen.close_tuple span) tokens on r AtEqual (InRecord labels values ∷ trees) whole room fits h = absurd (cc h)
  stepped _ _ (seen.open_sequence span) tokens on r AtEqual (InRecord labels values ∷ trees) whole room fits h = absurd (not_here (not (nat_lt (length (InRecord labels values ∷ trees)) most)) span.from tokens whole h)
  stepped _ _ (seen.close_sequence span) tokens on r AtEqual (InRecord labels values ∷ trees) whole room fits h = absurd (cc h)
  stepped _ _ (seen.open_record span) tokens on r AtEqual (InRecord labels values ∷ trees) whole room fits h = absurd (not_here (not (nat_lt (length (InRecord labels values ∷ trees)) most)) span.from tokens whole h)
  stepped _ _ (seen.close_record span) tokens on r AtEqual (InRecord labels values ∷ trees) whole room fits h = absurd (cc h)
  stepped _ _ (seen.open_tag span) tokens on r AtEqual (InRecord labels values ∷ trees) whole room fits h = absurd (not_here (not (nat_lt (length (InRecord labels values ∷ trees)) most)) span.from tokens whole h)
  stepped _ _ (seen.close_tag span) tokens on r AtEqual (InRecord labels values ∷ trees) whole room fits h = absurd (cc h)
  stepped _ _ (seen.equal span) tokens on r AtEqual (InRecord labels values ∷ trees) whole room fits h =
      (span, tokens, refl, on r AtValue (InRecord labels values ∷ trees) whole room tt h)
  stepped _ _ (seen.comma span) tokens on r AtEqual (InRecord labels values ∷ trees) whole room fits h = absurd (cc h)
  stepped _ _ (seen.semicolon span) tokens on r AtEqual (InRecord labels values ∷ trees) whole room fits h = absurd (cc h)
  stepped _ _ (seen.other token) tokens on r AtEqual (InRecord labels values ∷ trees) whole room fits h = absurd (cc h)
  stepped _ _ (seen.number n span) tokens on r (Done value) trees whole room fits h = absurd (cc h)
  stepped _ _ (seen.letters cs span) tokens on r (Done value) trees whole room fits h = absurd (cc h)
  stepped _ _ (seen.text cs span) tokens on r (Done value) trees whole room fits h = absurd (cc h)
  stepped _ _ (seen.atom name span) tokens on r (Done value) trees whole room fits h = absurd (cc h)
  stepped _ _ (seen.label name span other) tokens on r (Done value) trees whole room fits h = absurd (cc h)
  stepped _ _ (seen.open_tuple span) tokens on r (Done value) trees whole room fits h = absurd (not_here (not (nat_lt (length (trees)) most)) span.from tokens whole h)
  stepped _ _ (seen.close_tuple span) tokens on r (Done value) trees whole room fits h = absurd (cc h)
  stepped _ _ (seen.open_sequence span) tokens on r (Done value) trees whole room fits h = absurd (not_here (not (nat_lt (length (trees)) most)) span.from tokens whole h)
  stepped _ _ (seen.close_sequence span) tokens on r (Done value) trees whole room fits h = absurd (cc h)
  stepped _ _ (seen.open_record span) tokens on r (Done value) trees whole room fits h = absurd (not_here (not (nat_lt (length (trees)) most)) span.from tokens whole h)
  stepped _ _ (seen.close_record span) tokens on r (Done value) trees whole room fits h = absurd (cc h)
  stepped _ _ (seen.open_tag span) tokens on r (Done value) trees whole room fits h = absurd (not_here (not (nat_lt (length (trees)) most)) span.from tokens whole h)
  stepped _ _ (seen.close_tag span) tokens on r (Done value) trees whole room fits h = absurd (cc h)
  stepped _ _ (seen.equal span) tokens on r (Done value) trees whole room fits h = absurd (cc h)
  stepped _ _ (seen.comma span) tokens on r (Done value) trees whole room fits h = absurd (cc h)
  stepped _ _ (seen.semicolon span) tokens on r (Done value) trees whole room fits h = absurd (cc h)
  stepped _ _ (seen.other token) tokens on r (Done value) trees whole room fits h = absurd (cc h)
  stepped one is view tokens on r AtItem [] whole room fits h = absurd fits
  stepped one is view tokens on r expecting trees whole room fits h = absurd fits

  pub sound : (tokens : List Token) → On tokens
  sound [] r (Done value) trees whole room fits h = (refl, cc h)
  sound [] r AtValue trees whole room fits h = absurd (cc h)
  sound [] r AtItem trees whole room fits h = absurd (cc h)
  sound [] r AfterPart trees whole room fits h = absurd (cc h)
  sound [] r AtField trees whole room fits h = absurd (cc h)
  sound [] r AfterField trees whole room fits h = absurd (cc h)
  sound [] r AtTag trees whole room fits h = absurd (cc h)
  sound [] r AtAttribute trees whole room fits h = absurd (cc h)
  sound [] r AfterAttribute trees whole room fits h = absurd (cc h)
  sound [] r AtEqual trees whole room fits h = absurd (cc h)
  sound (one ∷ tokens) r expecting trees whole room fits h =
      let view = seen_token one in
      stepped one view.0 view.1 tokens (sound tokens) r expecting trees whole room fits
      (subst (λ is. Runs expecting trees one is tokens whole) view.2 h)

  pub derived : (tokens : List Token) (whole : Thing) → run most start tokens ≡ Ok (Some whole) → IsDocument most tokens whole
  derived tokens whole h =
      let found = sound tokens most AtValue [] whole (omega arith) tt h in
      let same : tokens ≡ found.0 = found.3 ∙ ap (λ rest. found.0 ++ rest) found.5.0 ∙ append-nil found.0 in
      subst (λ all. IsDocument most all whole) (sym same) (subst (IsDocument most found.0) found.5.1 found.4)
