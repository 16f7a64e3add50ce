-- Records and XML values are read back.
use Rattle.std.proofs.Common.{◌≡◌, ◌∙◌, ℕ, suc, true, false, Bool, List, [], ◌∷◌, ◌++◌, refl, sym, ap, subst, append_assoc, true≢false, ◌==◌, arith}
use Rattle.std.specs.Prelude.{codes, IsTrue}
use Rattle.std.specs.List.{list_all}
use Rattle.std.proofs.lemmas.Bool.{and_parts}
use Rattle.std.proofs.lemmas.Bool.Decides.{nat_tests}
use Rattle.cd_syntax.specs.Name.{Name, IsLabel, is_word, begins_word, goes_on_word}
use Rattle.cd_syntax.specs.Tokens as tokens
use Rattle.cd_syntax.specs.Tokens.{EndsWord, Lexes}
use Rattle.cd_syntax.specs.Tokens.{at}
use Rattle.cd_syntax.specs.declared.sign.Sign.TheVariants as sign
use Rattle.cd_syntax.specs.declared.tokens.Span.{Span}
use Rattle.cd_syntax.specs.declared.tokens.Token.{Token}
use Rattle.cd_syntax.specs.declared.tokens.TokenKind.TheVariants as token
use Rattle.cd_model.specs.Canonical.{Text, joined}
use Rattle.cd_model.specs.Thing.{Thing, Fields, NoField, Field, Record, Xml, Atom}
use Rattle.cd_documents.specs.Document as document
use Rattle.cd_documents.specs.Document.{IsDocument, AreFields, AreMoreFields, AreAttributes, is_among, with_field}
use Rattle.cd_print.proofs.OneSign.{IsAlone, open_brace, close_brace, equal, semicolon, less, greater}
use Rattle.cd_print.proofs.ReadsOn.{Reads, PrintedAs, weaker, token_then, sign_then, blank_then, value_then}
use Rattle.cd_print.proofs.TextsJoined.{after, joined_after}
use Rattle.cd_print.proofs.SpinesRead.{Split, Only, only, Printed}

-- the texts of fields
abbrev pub field_text : Name → Text → Text
field_text label text = label ++ codes "=" ++ text

module _ (depth : ℕ) where
  -- what the texts of fields stand for, whose labels are none of those before
  pub data FieldsAre : (before : List Name) → List Text → Fields → Type 0 where
    no_text : (before : List Name) → FieldsAre before [] NoField
    field_text_is : (before : List Name) (label : Name) (text : Text) (texts : List Text) (value : Thing) (others : Fields)
        → IsLabel label → is_among label before ≡ false → with_field label value others ≡ Field label value others
        → Printed depth text value → FieldsAre (label ∷ before) texts others
        → FieldsAre before (field_text label text ∷ texts) (Field label value others)

  module _ (more : ℕ → List Token) (tail : List Token → Type 0) where
    -- a label and its value, and then others
    record AField (label : Name) (value : Thing) (then : List Token → Type 0) (tokens : List Token) : Type 0 where
      span : Span
      equal : Span
      of_value : List Token
      rest : List Token
      is : tokens ≡ at (token.Word label) span ∷ at (token.Sign sign.Equal) equal ∷ of_value ++ rest
      document : IsDocument depth of_value value
      then_is : then rest

    record Equals (value : Thing) (then : List Token → Type 0) (tokens : List Token) : Type 0 where
      equal : Span
      of_value : List Token
      rest : List Token
      is : tokens ≡ at (token.Sign sign.Equal) equal ∷ of_value ++ rest
      document : IsDocument depth of_value value
      then_is : then rest

    record Valued (value : Thing) (then : List Token → Type 0) (tokens : List Token) : Type 0 where
      of_value : List Token
      rest : List Token
      is : tokens ≡ of_value ++ rest
      document : IsDocument depth of_value value
      then_is : then rest

    field_on : (joined : Bool) (label : Name) (written : Text) (value : Thing) (text : List ℕ) (then : List Token → Type 0)
        → IsLabel label → Printed depth written value → EndsWord text → ((from : ℕ) → Reads true from text more then)
        → (from : ℕ) → Reads joined from (field_text label written ++ text) more (AField label value then)
    field_on joined label written value text then named is ends on from =
        subst (λ all. Reads joined from all more (AField label value then)) (sym text_is)
        (token_then more joined (token.Word label) label (61 ∷ written ++ text) (Equals value then) (AField label value then)
        (tokens.word label (61 ∷ written ++ text) named.0 refl)
        (sign_then more true sign.Equal (written ++ text) (Valued value then) (Equals value then)
        (equal (written ++ text) (is.starts text))
        (value_then more written text (λ tokens. IsDocument depth tokens value) then (Valued value then) is ends on
        (λ one after_it document_of is_then. record { of_value = one; rest = after_it; is = refl; document = document_of; then_is = is_then }))
        (λ span tokens valued. record {
          equal = span;
          of_value = valued.of_value;
          rest = valued.rest;
          is = ap (λ all. at (token.Sign sign.Equal) span ∷ all) valued.is;
          document = valued.document;
          then_is = valued.then_is;
        }))
        (λ span tokens equals. record {
          span = span;
          equal = equals.equal;
          of_value = equals.of_value;
          rest = equals.rest;
          is = ap (λ all. at (token.Word label) span ∷ all) equals.is;
          document = equals.document;
          then_is = equals.then_is;
        })
        from)
      where
        text_is : field_text label written ++ text ≡ label ++ (61 ∷ written ++ text)
        text_is = append_assoc (label ++ codes "=") written text ∙ append_assoc label (codes "=") (written ++ text)

    module _ (rest : List ℕ) (ends : EndsWord rest) (on : (from : ℕ) → Reads true from rest more tail) where
      abbrev More : List Name → Fields → List Token → Type 0
      More before fields = Split (λ tokens. AreMoreFields depth before tokens fields) tail

      semicolons_end : (texts : List Text) → EndsWord (after (codes "; ") texts rest)
      semicolons_end [] = ends
      semicolons_end (text ∷ texts) = refl

      -- the first field of those that are left
      put_field : (before : List Name) (label : Name) (value : Thing) (others : Fields)
          → IsLabel label → is_among label before ≡ false → with_field label value others ≡ Field label value others
          → (tokens : List Token) → AField label value (More (label ∷ before) others) tokens
          → Split (λ tokens. AreFields depth before tokens (Field label value others)) tail tokens
      put_field before label value others named new is tokens field =
          let split = field.then_is in
          record {
            first = at (token.Word label) field.span ∷ at (token.Sign sign.Equal) field.equal ∷ field.of_value ++ split.first;
            last = split.last;
            is = field.is ∙ ap (λ all. at (token.Word label) field.span ∷ at (token.Sign sign.Equal) field.equal ∷ all)
                (ap (λ all. field.of_value ++ all) split.is ∙ sym (append_assoc field.of_value split.first split.last));
            form = subst (AreFields depth before _) is
                (document.field depth before label field.span field.equal field.of_value split.first value others named.1 new field.document split.form);
            tail = split.tail;
          }

      after_fields : (before : List Name) (texts : List Text) (fields : Fields) → FieldsAre before texts fields
          → (from : ℕ) → Reads true from (after (codes "; ") texts rest) more (More before fields)
      after_fields _ _ _ (no_text before) from =
          weaker tail (More before NoField)
          (λ tokens is. record { first = []; last = tokens; is = refl; form = document.no_more depth before; tail = is }) (on from)
      after_fields _ _ _ (field_text_is before label text texts value others named new is written fields) from =
          sign_then more true sign.Semicolon (32 ∷ field_text label text ++ after (codes "; ") texts rest)
          (Split (λ tokens. AreFields depth before tokens (Field label value others)) tail) (More before (Field label value others))
          (semicolon (field_text label text ++ after (codes "; ") texts rest))
          (blank_then more false (field_text label text ++ after (codes "; ") texts rest)
          (Split (λ tokens. AreFields depth before tokens (Field label value others)) tail)
          (λ from. weaker (AField label value (More (label ∷ before) others)) (Split (λ tokens. AreFields depth before tokens (Field label value others)) tail)
          (put_field before label value others named new is)
          (field_on false label text value (after (codes "; ") texts rest) (More (label ∷ before) others) named written (semicolons_end texts)
          (after_fields (label ∷ before) texts others fields) from)))
          (λ span tokens split. record {
            first = at (token.Sign sign.Semicolon) span ∷ split.first;
            last = split.last;
            is = ap (λ all. at (token.Sign sign.Semicolon) span ∷ all) split.is;
            form = document.semicolon depth before span split.first (Field label value others) split.form;
            tail = split.tail;
          }) from

      fields_on : (texts : List Text) (fields : Fields) → FieldsAre [] texts fields → ((from : ℕ) → Reads false from rest more tail)
          → (from : ℕ) → Reads false from (joined (codes "; ") texts ++ rest) more (Split (λ tokens. AreFields depth [] tokens fields) tail)
      fields_on _ _ (no_text _) alone from =
          weaker tail (Split (λ tokens. AreFields depth [] tokens NoField) tail)
          (λ tokens is. record { first = []; last = tokens; is = refl; form = document.no_field depth []; tail = is }) (alone from)
      fields_on _ _ (field_text_is _ label text texts value others named new is written fields) alone from =
          subst (λ all. Reads false from all more (Split (λ tokens. AreFields depth [] tokens (Field label value others)) tail))
          (sym (joined_after (codes "; ") (field_text label text) texts rest))
          (weaker (AField label value (More (label ∷ []) others)) (Split (λ tokens. AreFields depth [] tokens (Field label value others)) tail)
          (put_field [] label value others named new is)
          (field_on false label text value (after (codes "; ") texts rest) (More (label ∷ []) others) named written (semicolons_end texts)
          (after_fields (label ∷ []) texts others fields) from))

      -- attributes, which a blank stands before
      abbrev Attributes : List Name → Fields → List Token → Type 0
      Attributes before fields = Split (λ tokens. AreAttributes depth before tokens fields) tail

      blanks_end : (texts : List Text) → EndsWord (after (codes " ") texts rest)
      blanks_end [] = ends
      blanks_end (text ∷ texts) = refl

      put_attribute : (before : List Name) (label : Name) (value : Thing) (others : Fields)
          → IsLabel label → is_among label before ≡ false → with_field label value others ≡ Field label value others
          → (tokens : List Token) → AField label value (Attributes (label ∷ before) others) tokens
          → Attributes before (Field label value others) tokens
      put_attribute before label value others named new is tokens field =
          let split = field.then_is in
          record {
            first = at (token.Word label) field.span ∷ at (token.Sign sign.Equal) field.equal ∷ field.of_value ++ ([] ++ split.first);
            last = split.last;
            is = field.is ∙ ap (λ all. at (token.Word label) field.span ∷ at (token.Sign sign.Equal) field.equal ∷ all)
                (ap (λ all. field.of_value ++ all) split.is ∙ sym (append_assoc field.of_value split.first split.last));
            form = subst (AreAttributes depth before _) is
                (document.attribute depth before label field.span field.equal field.of_value [] split.first value others named.1 new field.document
                document.no_semicolon split.form);
            tail = split.tail;
          }

      attributes_on : (before : List Name) (texts : List Text) (fields : Fields) → FieldsAre before texts fields
          → (from : ℕ) → Reads true from (after (codes " ") texts rest) more (Attributes before fields)
      attributes_on _ _ _ (no_text before) from =
          weaker tail (Attributes before NoField)
          (λ tokens is. record { first = []; last = tokens; is = refl; form = document.no_attribute depth before; tail = is }) (on from)
      attributes_on _ _ _ (field_text_is before label text texts value others named new is written fields) from =
          blank_then more true (field_text label text ++ after (codes " ") texts rest) (Attributes before (Field label value others))
          (λ from. weaker (AField label value (Attributes (label ∷ before) others)) (Attributes before (Field label value others))
          (put_attribute before label value others named new is)
          (field_on false label text value (after (codes " ") texts rest) (Attributes (label ∷ before) others) named written (blanks_end texts)
          (attributes_on (label ∷ before) texts others fields) from)) from

  pub record_back : (texts : List Text) (fields : Fields) → FieldsAre [] texts fields
      → PrintedAs (codes "{" ++ joined (codes "; ") texts ++ codes "}") (λ tokens. IsDocument (suc depth) tokens (Record fields))
  record_back texts fields are = record {
    starts = λ rest. record { no_equal = refl; no_question = refl; no_star = refl };
    reads = λ rest more ends lexes from.
        subst (λ text. Reads false from text more (λ tokens. IsDocument (suc depth) tokens (Record fields)))
        (ap (λ text. 123 ∷ text) (sym (append_assoc (joined (codes "; ") texts) (125 ∷ []) rest)))
        (sign_then more false sign.OpenBrace (joined (codes "; ") texts ++ 125 ∷ rest)
        (Split (λ tokens. AreFields depth [] tokens fields) (Only sign.CloseBrace)) (λ tokens. IsDocument (suc depth) tokens (Record fields))
        (open_brace _)
        (fields_on more (Only sign.CloseBrace) (125 ∷ rest) refl (only true sign.CloseBrace rest more refl (close_brace rest) lexes) texts fields are
        (only false sign.CloseBrace rest more refl (close_brace rest) lexes))
        (λ span tokens split.
        subst (λ all. IsDocument (suc depth) (at (token.Sign sign.OpenBrace) span ∷ all) (Record fields))
        (sym (split.is ∙ ap (λ all. split.first ++ all) split.tail.one))
        (document.fields depth span split.tail.span split.first fields split.form))
        from);
  }

  -- the content after a `>`
  record Content (value : Thing) (tokens : List Token) : Type 0 where
    span : Span
    content : List Token
    is : tokens ≡ at (token.Sign sign.Greater) span ∷ content
    document : IsDocument depth content value

  -- a tag with its attributes and content
  record Tagged (tag : Name) (attributes : Fields) (value : Thing) (tokens : List Token) : Type 0 where
    span : Span
    rest : List Token
    is : tokens ≡ at (token.Word tag) span ∷ rest
    split : Split (λ tokens. AreAttributes depth [] tokens attributes) (Content value) rest

  no_equal : (tag : Name) → IsTrue (is_word tag) → (rest : List ℕ) → IsAlone sign.Less (tag ++ rest)
  no_equal [] is rest = absurd (true≢false (sym is))
  no_equal (c ∷ tag) is rest = less c (tag ++ rest) (by_test (c == 61) refl)
    where
      by_test : (test : Bool) → (c == 61) ≡ test → (c == 61) ≡ false
      by_test true test =
          let same : c ≡ 61 = grind (arith, nat_tests) in
          absurd (true≢false (sym (subst (λ n. begins_word n ≡ true) same (and_parts (begins_word c) (list_all goes_on_word tag) is).0)))
      by_test false test = test

  pub xml_back : (tag : Name) (texts : List Text) (attributes : Fields) (text : Text) (value : Thing)
      → IsLabel tag → FieldsAre [] texts attributes → Printed depth text value
      → PrintedAs (codes "<" ++ joined (codes " ") (tag ∷ texts) ++ codes ">" ++ text) (λ tokens. IsDocument (suc depth) tokens (Xml (Atom tag) (Record attributes) value))
  xml_back tag texts attributes text value named are written = record {
    starts = λ rest. record { no_equal = refl; no_question = refl; no_star = refl };
    reads = λ rest more ends lexes from.
        let on : (from : ℕ) → Reads true from (62 ∷ text ++ rest) more (Content value) =
        sign_then more true sign.Greater (text ++ rest) (λ tokens. IsDocument depth tokens value) (Content value)
        (greater (text ++ rest) (written.starts rest)) (written.reads rest more ends lexes)
        (λ span tokens document. record { span = span; content = tokens; is = refl; document = document }) in
        subst (λ all. Reads false from all more (λ tokens. IsDocument (suc depth) tokens (Xml (Atom tag) (Record attributes) value)))
        (ap (λ all. 60 ∷ all) (sym (text_is rest)))
        (sign_then more false sign.Less (tag ++ after (codes " ") texts (62 ∷ text ++ rest))
        (Tagged tag attributes value) (λ tokens. IsDocument (suc depth) tokens (Xml (Atom tag) (Record attributes) value))
        (no_equal tag named.0 (after (codes " ") texts (62 ∷ text ++ rest)))
        (token_then more false (token.Word tag) tag (after (codes " ") texts (62 ∷ text ++ rest))
        (Split (λ tokens. AreAttributes depth [] tokens attributes) (Content value)) (Tagged tag attributes value)
        (tokens.word tag (after (codes " ") texts (62 ∷ text ++ rest)) named.0 (blanks_end more (Content value) (62 ∷ text ++ rest) refl on texts))
        (attributes_on more (Content value) (62 ∷ text ++ rest) refl on [] texts attributes are)
        (λ span tokens split. record { span = span; rest = tokens; is = refl; split = split }))
        (λ left tokens tagged.
        let split = tagged.split in
        let content = split.tail in
        subst (λ all. IsDocument (suc depth) (at (token.Sign sign.Less) left ∷ all) (Xml (Atom tag) (Record attributes) value))
        (sym (tagged.is ∙ ap (λ all. at (token.Word tag) tagged.span ∷ all) (split.is ∙ ap (λ all. split.first ++ all) content.is)))
        (document.xml depth left tagged.span content.span tag split.first content.content attributes value named.1 split.form content.document))
        from);
  }
    where
      text_is : (rest : List ℕ) → (joined (codes " ") (tag ∷ texts) ++ codes ">" ++ text) ++ rest ≡ tag ++ after (codes " ") texts (62 ∷ text ++ rest)
      text_is rest =
          append_assoc (joined (codes " ") (tag ∷ texts) ++ codes ">") text rest
          ∙ append_assoc (joined (codes " ") (tag ∷ texts)) (codes ">") (text ++ rest)
          ∙ joined_after (codes " ") tag texts (62 ∷ text ++ rest)
