-- Documents: which tokens are a document of which value.
--
-- Each form has a bound on its depth: the number of `(`, `[`, `{` and `<` whose forms may hold one
-- of its tokens. The form of a `<` ends with its content.
use Rattle.std.specs.Prelude.{◌≡◌, ◌≢◌, ℕ, suc, ℤ, Bool, false, List, [], ◌∷◌, ◌++◌, codes}
use Rattle.std.specs.Prelude.{bytes_eq, if◌then◌else◌}
use Rattle.std.specs.List.{list_any}
use Rattle.std.specs.Ordering.{nat_cmp, is_lt}
use Rattle.std.specs.Cmp.Lexicographic.{slice_cmp}
use Rattle.cd_syntax.specs.declared.sign.Sign.TheVariants as sign
use Rattle.cd_syntax.specs.declared.tokens.Span.{Span}
use Rattle.cd_syntax.specs.declared.tokens.Token.{Token}
use Rattle.cd_syntax.specs.declared.tokens.TokenKind.TheVariants as token
use Rattle.cd_syntax.specs.Name.{Name}
use Rattle.cd_syntax.specs.Tokens.{at}
use Rattle.cd_model.specs.Thing.{Thing, Integer, Character, Atom, Pair, Xml, Record, Fields}
use Rattle.cd_model.specs.Thing.{NoField, Field}

-- the end of each sequence, and the sequence without items
abbrev pub the_nil : Thing
the_nil = Atom (codes "nil")

-- a sequence that begins with these characters and goes on so
abbrev pub characters_before : List ℕ → Thing → Thing
characters_before [] rest = rest
characters_before (c ∷ cs) rest = Pair (Character c) (characters_before cs rest)

-- whether a label is one of these
abbrev pub is_among : Name → List Name → Bool
is_among label labels = list_any (bytes_eq label) labels

-- one more field, before the first one with a higher label
abbrev pub with_field : Name → Thing → Fields → Fields
with_field label value NoField = Field label value NoField
with_field label value (Field other is rest) =
    if is_lt (slice_cmp nat_cmp label other) then Field label value (Field other is rest)
    else Field other is (with_field label value rest)

-- a `;` or nothing
pub data MayBeSemicolon : List Token → Type 0 where
  no_semicolon : MayBeSemicolon []
  one_semicolon : (span : Span) → MayBeSemicolon (at (token.Sign sign.Semicolon) span ∷ [])

mutual
  -- Value = Int | Chars of one character | Text | Atom | "(" Value { "," Value } ")"
  --       | "[" { Chars of any number | another Value } "]"
  --       | "{" [ Label "=" Value { ";" Label "=" Value } [ ";" ] ] "}"
  --       | "<" Label { Label "=" Value [ ";" ] } ">" Value
  pub data IsDocument : (depth : ℕ) → List Token → Thing → Type 0 where
    number : (depth : ℕ) (n : ℤ) (span : Span)
        → IsDocument depth (at (token.Int n) span ∷ []) (Integer n)
    character : (depth c : ℕ) (span : Span)
        → IsDocument depth (at (token.Chars (c ∷ [])) span ∷ []) (Character c)
    text : (depth : ℕ) (characters : List ℕ) (span : Span)
        → IsDocument depth (at (token.Text characters) span ∷ [])
        (characters_before characters the_nil)
    atom : (depth : ℕ) (name : Name) (span : Span)
        → IsDocument depth (at (token.Atom name) span ∷ []) (Atom name)
    tuple : (depth : ℕ) (left right : Span) (tokens : List Token) (value : Thing)
        → AreParts depth tokens value
        → IsDocument (suc depth) (at (token.Sign sign.OpenParenthesis) left ∷ tokens
        ++ at (token.Sign sign.CloseParenthesis) right ∷ []) value
    sequence : (depth : ℕ) (left right : Span) (tokens : List Token) (value : Thing)
        → AreItems depth tokens value
        → IsDocument (suc depth) (at (token.Sign sign.OpenBracket) left ∷ tokens
        ++ at (token.Sign sign.CloseBracket) right ∷ []) value
    fields : (depth : ℕ) (left right : Span) (tokens : List Token) (all : Fields)
        → AreFields depth [] tokens all
        → IsDocument (suc depth) (at (token.Sign sign.OpenBrace) left ∷ tokens
        ++ at (token.Sign sign.CloseBrace) right ∷ []) (Record all)
    xml : (depth : ℕ) (left span right : Span) (tag : Name) (tokens content : List Token)
        (attributes : Fields) (value : Thing)
        → tag ≢ codes "_" → AreAttributes depth [] tokens attributes
        → IsDocument depth content value
        → IsDocument (suc depth) (at (token.Sign sign.Less) left ∷ at (token.Word tag) span
        ∷ tokens ++ at (token.Sign sign.Greater) right ∷ content)
        (Xml (Atom tag) (Record attributes) value)

  -- Value { "," Value }: one value is itself, and tuples nest to the right
  pub data AreParts : (depth : ℕ) → List Token → Thing → Type 0 where
    last_part : (depth : ℕ) (tokens : List Token) (value : Thing) → IsDocument depth tokens value
        → AreParts depth tokens value
    part : (depth : ℕ) (comma : Span) (tokens rest : List Token) (value others : Thing)
        → IsDocument depth tokens value → AreParts depth rest others
        → AreParts depth (tokens ++ at (token.Sign sign.Comma) comma ∷ rest) (Pair value others)

  -- { Chars of any number | another Value }: one character is the same item as a Chars and as a
  -- value
  pub data AreItems : (depth : ℕ) → List Token → Thing → Type 0 where
    no_item : (depth : ℕ) → AreItems depth [] the_nil
    characters : (depth : ℕ) (cs : List ℕ) (span : Span) (rest : List Token) (others : Thing)
        → AreItems depth rest others
        → AreItems depth (at (token.Chars cs) span ∷ rest) (characters_before cs others)
    item : (depth : ℕ) (tokens rest : List Token) (value others : Thing)
        → IsDocument depth tokens value → AreItems depth rest others
        → AreItems depth (tokens ++ rest) (Pair value others)

  -- [ Label "=" Value { ";" Label "=" Value } [ ";" ] ]: a label is a word but `_`, and none of
  -- those before it
  pub data AreFields : (depth : ℕ) (before : List Name) → List Token → Fields → Type 0 where
    no_field : (depth : ℕ) (before : List Name) → AreFields depth before [] NoField
    field : (depth : ℕ) (before : List Name) (label : Name) (span equal : Span)
        (tokens rest : List Token) (value : Thing) (others : Fields)
        → label ≢ codes "_" → is_among label before ≡ false
        → IsDocument depth tokens value → AreMoreFields depth (label ∷ before) rest others
        → AreFields depth before (at (token.Word label) span ∷ at (token.Sign sign.Equal) equal
        ∷ tokens ++ rest) (with_field label value others)

  -- after a field: a `;` alone, or a `;` and further fields
  pub data AreMoreFields : (depth : ℕ) (before : List Name) → List Token → Fields → Type 0 where
    no_more : (depth : ℕ) (before : List Name) → AreMoreFields depth before [] NoField
    semicolon : (depth : ℕ) (before : List Name) (span : Span) (tokens : List Token) (all : Fields)
        → AreFields depth before tokens all
        → AreMoreFields depth before (at (token.Sign sign.Semicolon) span ∷ tokens) all

  -- { Label "=" Value [ ";" ] }
  pub data AreAttributes : (depth : ℕ) (before : List Name) → List Token → Fields → Type 0 where
    no_attribute : (depth : ℕ) (before : List Name) → AreAttributes depth before [] NoField
    attribute : (depth : ℕ) (before : List Name) (label : Name) (span equal : Span)
        (tokens mark rest : List Token) (value : Thing) (others : Fields)
        → label ≢ codes "_" → is_among label before ≡ false
        → IsDocument depth tokens value → MayBeSemicolon mark
        → AreAttributes depth (label ∷ before) rest others
        → AreAttributes depth before (at (token.Word label) span
        ∷ at (token.Sign sign.Equal) equal ∷ tokens ++ (mark ++ rest))
        (with_field label value others)
