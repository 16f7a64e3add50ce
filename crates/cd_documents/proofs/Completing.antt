-- The machine comes past the tokens of a document.
use Rattle.std.proofs.Common.{◌≡◌, ◌≢◌, ◌∙◌, sym, ap, refl, ℕ, suc, ◌+◌, ◌<◌, ◌≤◌, Bool, true, false, not, List, [], ◌∷◌, ◌++◌, length, append_assoc, append-nil, Option, Some, None, Result, Ok, Err, arith}
use Rattle.std.proofs.lemmas.Bool.Decides.{nat_tests}
use Rattle.std.proofs.lemmas.Slice.Eq.{bytes_eq-Decides}
use Rattle.std.specs.Prelude.{nat_lt, if◌then◌else◌, codes, bytes_eq}
use Rattle.cd_syntax.specs.declared.sign.Sign.TheVariants as sign
use Rattle.cd_syntax.specs.declared.tokens.Span.{Span}
use Rattle.cd_syntax.specs.declared.tokens.Token.{Token}
use Rattle.cd_syntax.specs.declared.tokens.TokenKind.TheVariants as token
use Rattle.cd_syntax.specs.Name.{Name}
use Rattle.cd_syntax.specs.Tokens.{at}
use Rattle.cd_model.specs.Thing.{Thing, Character, Record, Fields}
use Rattle.cd_documents.specs.Document as document
use Rattle.cd_documents.specs.Document.{the_nil, characters_before, is_among, with_field, IsDocument, AreParts, AreItems, AreFields, AreMoreFields, AreAttributes}
use Rattle.cd_documents.specs.Terminal.{Label, NoTerminal, terminal}
use Rattle.cd_documents.specs.Machine.{Expecting, AtValue, AtItem, AtField, AfterField, AtTag, AtAttribute, AfterAttribute, AtEqual, OpenTree, InTuple, InSequence, InRecord, InTag, InContent, State, state, start, Fault, TooDeep, pairs, letters_onto, with_fields, put, after_terminal, or_wrong, step_on, and_then, reach, ended, run}

-- what comes of a step, and of the tokens after it
abbrev pub going : (most : ℕ) (more : List Token) → Result State Fault → Result (Option Thing) Fault
going most more made = ended (and_then made (λ next. reach most next more))

less : (n most : ℕ) → n < most → nat_lt n most ≡ true
less n most lt = grind (arith, nat_tests)

opened : (most : ℕ) (trees : List OpenTree) (from : ℕ) (next : State) → length trees < most
    → (if not (nat_lt (length trees) most) then Err (TooDeep from) else Ok next) ≡ Ok next
opened most trees from next lt = ap (λ (b : Bool). if not b then Err (TooDeep from) else Ok next) (less (length trees) most lt)

unless : (b : Bool) → (b ≡ true → ⊥) → b ≡ false
unless true no_way = absurd (no_way refl)
unless false no_way = refl

pub is_label : (name : Name) → name ≢ codes "_" → terminal (token.Word name) ≡ Label name
is_label name other = ap (λ (b : Bool). if b then NoTerminal else Label name)
    (unless (bytes_eq name (codes "_")) (λ same. other ((bytes_eq-Decides name (codes "_")).0 same)))

word_comes : (most : ℕ) (expecting : Expecting) (trees : List OpenTree) (name : Name) (span : Span) (next : State) (more : List Token)
    → name ≢ codes "_" → after_terminal expecting trees (Label name) ≡ Some next
    → run most (state expecting trees) (at (token.Word name) span ∷ more) ≡ run most next more
word_comes most expecting trees name span next more other is =
    ap (λ t. going most more (step_on most (state expecting trees) span.from t)) (is_label name other)
    ∙ ap (λ made. going most more (or_wrong span.from made)) is

new_label : (label : Name) (labels : List Name) (next : State) → is_among label labels ≡ false
    → (if is_among label labels then None else Some next) ≡ Some next
new_label label labels next is = ap (λ (b : Bool). if b then None else Some next) is

pub letters_pairs : (cs : List ℕ) (before : List Thing) (rest : Thing) → pairs (letters_onto cs before) rest ≡ pairs before (characters_before cs rest)
letters_pairs [] before rest = refl
letters_pairs (c ∷ cs) before rest = letters_pairs cs (Character c ∷ before) rest

-- an item begins as any value does
as_value : (depth : ℕ) (tokens : List Token) (value : Thing) → IsDocument depth tokens value
    → (most : ℕ) (before : List Thing) (trees : List OpenTree) (more : List Token)
    → run most (state AtItem (InSequence before ∷ trees)) (tokens ++ more) ≡ run most (state AtValue (InSequence before ∷ trees)) (tokens ++ more)
as_value _ _ _ (document.number depth n span) most before trees more = refl
as_value _ _ _ (document.character depth c span) most before trees more = refl
as_value _ _ _ (document.text depth cs span) most before trees more = refl
as_value _ _ _ (document.atom depth name span) most before trees more = refl
as_value _ _ _ (document.tuple depth left right tokens value parts) most before trees more = refl
as_value _ _ _ (document.sequence depth left right tokens value items) most before trees more = refl
as_value _ _ _ (document.fields depth left right tokens all is) most before trees more = refl
as_value _ _ _ (document.xml depth left span right tag tokens content attributes value label are is) most before trees more = refl

-- an attribute may come next
data ExpectsAttribute : Expecting → Type 0 where
  first : ExpectsAttribute AtAttribute
  later : ExpectsAttribute AfterAttribute

attribute_label : (expecting : Expecting) → ExpectsAttribute expecting → (most : ℕ) (label : Name) (span : Span) (labels : List Name) (tag : Name) (values : List Thing) (trees : List OpenTree)
    → label ≢ codes "_" → is_among label labels ≡ false → (more : List Token)
    → run most (state expecting (InTag tag labels values ∷ trees)) (at (token.Word label) span ∷ more)
    ≡ run most (state AtEqual (InTag tag (label ∷ labels) values ∷ trees)) more
attribute_label _ first most label span labels tag values trees other is more =
    let next = state AtEqual (InTag tag (label ∷ labels) values ∷ trees) in
    word_comes most AtAttribute (InTag tag labels values ∷ trees) label span next more other (new_label label labels next is)
attribute_label _ later most label span labels tag values trees other is more =
    let next = state AtEqual (InTag tag (label ∷ labels) values ∷ trees) in
    word_comes most AfterAttribute (InTag tag labels values ∷ trees) label span next more other (new_label label labels next is)

abbrev pub close_tuple : Span → Token
close_tuple = at (token.Sign sign.CloseParenthesis)

abbrev pub close_sequence : Span → Token
close_sequence = at (token.Sign sign.CloseBracket)

abbrev pub close_record : Span → Token
close_record = at (token.Sign sign.CloseBrace)

abbrev pub close_tag : Span → Token
close_tag = at (token.Sign sign.Greater)

abbrev pub comma_at : Span → Token
comma_at = at (token.Sign sign.Comma)

abbrev pub equal_at : Span → Token
equal_at = at (token.Sign sign.Equal)

abbrev pub semicolon_at : Span → Token
semicolon_at = at (token.Sign sign.Semicolon)

mutual
  pub comes : (depth : ℕ) (tokens : List Token) (value : Thing) → IsDocument depth tokens value
      → (most : ℕ) (trees : List OpenTree) (more : List Token) → depth + length trees ≤ most
      → run most (state AtValue trees) (tokens ++ more) ≡ run most (put value trees) more
  comes _ _ _ (document.number depth n span) most trees more le = refl
  comes _ _ _ (document.character depth c span) most trees more le = refl
  comes _ _ _ (document.text depth cs span) most trees more le = refl
  comes _ _ _ (document.atom depth name span) most trees more le = refl
  comes _ _ _ (document.tuple depth left right tokens value parts) most trees more le =
      let next = state AtValue (InTuple [] ∷ trees) in
      ap (going most ((tokens ++ close_tuple right ∷ []) ++ more)) (opened most trees left.from next (omega (arith, le)))
      ∙ ap (run most next) (append_assoc tokens (close_tuple right ∷ []) more)
      ∙ parts_come depth tokens value parts most [] trees right more (omega (arith, le))
  comes _ _ _ (document.sequence depth left right tokens value items) most trees more le =
      let next = state AtItem (InSequence [] ∷ trees) in
      ap (going most ((tokens ++ close_sequence right ∷ []) ++ more)) (opened most trees left.from next (omega (arith, le)))
      ∙ ap (run most next) (append_assoc tokens (close_sequence right ∷ []) more)
      ∙ items_come depth tokens value items most [] trees right more (omega (arith, le))
  comes _ _ _ (document.fields depth left right tokens all are) most trees more le =
      let next = state AtField (InRecord [] [] ∷ trees) in
      ap (going most ((tokens ++ close_record right ∷ []) ++ more)) (opened most trees left.from next (omega (arith, le)))
      ∙ ap (run most next) (append_assoc tokens (close_record right ∷ []) more)
      ∙ fields_come depth [] tokens all are most [] trees right more (omega (arith, le))
  comes _ _ _ (document.xml depth left span right tag tokens content attributes value label are is) most trees more le =
      let next = state AtAttribute (InTag tag [] [] ∷ trees) in
      ap (going most (at (token.Word tag) span ∷ (tokens ++ close_tag right ∷ content) ++ more))
      (opened most trees left.from (state AtTag (InTag [] [] [] ∷ trees)) (omega (arith, le)))
      ∙ word_comes most AtTag (InTag [] [] [] ∷ trees) tag span next ((tokens ++ close_tag right ∷ content) ++ more) label refl
      ∙ ap (run most next) (append_assoc tokens (close_tag right ∷ content) more)
      ∙ attributes_come depth [] tokens attributes are most AtAttribute first tag [] trees right (content ++ more) (omega (arith, le))
      ∙ comes depth content value is most (InContent tag attributes ∷ trees) more (omega (arith, le))

  parts_come : (depth : ℕ) (tokens : List Token) (value : Thing) → AreParts depth tokens value
      → (most : ℕ) (before : List Thing) (trees : List OpenTree) (right : Span) (more : List Token) → suc depth + length trees ≤ most
      → run most (state AtValue (InTuple before ∷ trees)) (tokens ++ close_tuple right ∷ more) ≡ run most (put (pairs before value) trees) more
  parts_come _ _ _ (document.last_part depth tokens value is) most before trees right more le =
      comes depth tokens value is most (InTuple before ∷ trees) (close_tuple right ∷ more) (omega (arith, le))
  parts_come _ _ _ (document.part depth comma tokens rest value others is parts) most before trees right more le =
      ap (run most (state AtValue (InTuple before ∷ trees))) (append_assoc tokens (comma_at comma ∷ rest) (close_tuple right ∷ more))
      ∙ comes depth tokens value is most (InTuple before ∷ trees) (comma_at comma ∷ rest ++ close_tuple right ∷ more) (omega (arith, le))
      ∙ parts_come depth rest others parts most (value ∷ before) trees right more le

  items_come : (depth : ℕ) (tokens : List Token) (value : Thing) → AreItems depth tokens value
      → (most : ℕ) (before : List Thing) (trees : List OpenTree) (right : Span) (more : List Token) → suc depth + length trees ≤ most
      → run most (state AtItem (InSequence before ∷ trees)) (tokens ++ close_sequence right ∷ more) ≡ run most (put (pairs before value) trees) more
  items_come _ _ _ (document.no_item depth) most before trees right more le = refl
  items_come _ _ _ (document.characters depth cs span rest others items) most before trees right more le =
      items_come depth rest others items most (letters_onto cs before) trees right more le
      ∙ ap (λ value. run most (put value trees) more) (letters_pairs cs before others)
  items_come _ _ _ (document.item depth tokens rest value others is items) most before trees right more le =
      ap (run most (state AtItem (InSequence before ∷ trees))) (append_assoc tokens rest (close_sequence right ∷ more))
      ∙ as_value depth tokens value is most before trees (rest ++ close_sequence right ∷ more)
      ∙ comes depth tokens value is most (InSequence before ∷ trees) (rest ++ close_sequence right ∷ more) (omega (arith, le))
      ∙ items_come depth rest others items most (value ∷ before) trees right more le

  fields_come : (depth : ℕ) (labels : List Name) (tokens : List Token) (all : Fields) → AreFields depth labels tokens all
      → (most : ℕ) (values : List Thing) (trees : List OpenTree) (right : Span) (more : List Token) → suc depth + length trees ≤ most
      → run most (state AtField (InRecord labels values ∷ trees)) (tokens ++ close_record right ∷ more)
      ≡ run most (put (Record (with_fields labels values all)) trees) more
  fields_come _ _ _ _ (document.no_field depth labels) most values trees right more le = refl
  fields_come _ _ _ _ (document.field depth labels label span equal tokens rest value others other is_new is are) most values trees right more le =
      let next = state AtEqual (InRecord (label ∷ labels) values ∷ trees) in
      word_comes most AtField (InRecord labels values ∷ trees) label span next (equal_at equal ∷ (tokens ++ rest) ++ close_record right ∷ more) other
      (new_label label labels next is_new)
      ∙ ap (run most (state AtValue (InRecord (label ∷ labels) values ∷ trees))) (append_assoc tokens rest (close_record right ∷ more))
      ∙ comes depth tokens value is most (InRecord (label ∷ labels) values ∷ trees) (rest ++ close_record right ∷ more) (omega (arith, le))
      ∙ more_come depth (label ∷ labels) rest others are most (value ∷ values) trees right more le

  more_come : (depth : ℕ) (labels : List Name) (tokens : List Token) (all : Fields) → AreMoreFields depth labels tokens all
      → (most : ℕ) (values : List Thing) (trees : List OpenTree) (right : Span) (more : List Token) → suc depth + length trees ≤ most
      → run most (state AfterField (InRecord labels values ∷ trees)) (tokens ++ close_record right ∷ more)
      ≡ run most (put (Record (with_fields labels values all)) trees) more
  more_come _ _ _ _ (document.no_more depth labels) most values trees right more le = refl
  more_come _ _ _ _ (document.semicolon depth labels span tokens all are) most values trees right more le =
      fields_come depth labels tokens all are most values trees right more le

  attributes_come : (depth : ℕ) (labels : List Name) (tokens : List Token) (all : Fields) → AreAttributes depth labels tokens all
      → (most : ℕ) (expecting : Expecting) → ExpectsAttribute expecting → (tag : Name) (values : List Thing) (trees : List OpenTree) (right : Span) (more : List Token)
      → suc depth + length trees ≤ most
      → run most (state expecting (InTag tag labels values ∷ trees)) (tokens ++ close_tag right ∷ more)
      ≡ run most (state AtValue (InContent tag (with_fields labels values all) ∷ trees)) more
  attributes_come _ _ _ _ (document.no_attribute depth labels) most _ first tag values trees right more le = refl
  attributes_come _ _ _ _ (document.no_attribute depth labels) most _ later tag values trees right more le = refl
  attributes_come _ _ _ _ (document.attribute depth labels label span equal tokens _ rest value others other is_new is document.no_semicolon are) most expecting expects_attribute tag values trees right more le =
      attribute_label expecting expects_attribute most label span labels tag values trees other is_new (equal_at equal ∷ (tokens ++ rest) ++ close_tag right ∷ more)
      ∙ ap (run most (state AtValue (InTag tag (label ∷ labels) values ∷ trees))) (append_assoc tokens rest (close_tag right ∷ more))
      ∙ comes depth tokens value is most (InTag tag (label ∷ labels) values ∷ trees) (rest ++ close_tag right ∷ more) (omega (arith, le))
      ∙ attributes_come depth (label ∷ labels) rest others are most AfterAttribute later tag (value ∷ values) trees right more le
  attributes_come _ _ _ _ (document.attribute depth labels label span equal tokens _ rest value others other is_new is (document.one_semicolon mark) are) most expecting expects_attribute tag values trees right more le =
      attribute_label expecting expects_attribute most label span labels tag values trees other is_new (equal_at equal ∷ (tokens ++ semicolon_at mark ∷ rest) ++ close_tag right ∷ more)
      ∙ ap (run most (state AtValue (InTag tag (label ∷ labels) values ∷ trees))) (append_assoc tokens (semicolon_at mark ∷ rest) (close_tag right ∷ more))
      ∙ comes depth tokens value is most (InTag tag (label ∷ labels) values ∷ trees) (semicolon_at mark ∷ rest ++ close_tag right ∷ more) (omega (arith, le))
      ∙ attributes_come depth (label ∷ labels) rest others are most AtAttribute first tag (value ∷ values) trees right more le

pub reads : (most : ℕ) (tokens : List Token) (value : Thing) → IsDocument most tokens value → run most start tokens ≡ Ok (Some value)
reads most tokens value is =
    ap (run most start) (sym (append-nil tokens)) ∙ comes most tokens value is most [] [] (omega arith)
