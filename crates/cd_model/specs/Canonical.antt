-- The canonical text of a thing that holds no closure, and a fixed text for closures.
use Rattle.std.specs.Prelude.{ℕ, ◌==◌, ◌||◌, List, [], ◌∷◌, ◌++◌, Option, Some, None, map, codes}
use Rattle.std.specs.Prelude.{bytes_eq, nat_lt, if◌then◌else◌}
use Rattle.std.specs.Fmt.{decimal, signed_decimal}
use Rattle.std.specs.List.{join_by}
use Rattle.cd_syntax.specs.Name.{Name}
use Rattle.cd_model.specs.Thing.{Thing, Integer, Character, Atom, Pair, Xml, Record, Function}
use Rattle.cd_model.specs.Thing.{Closure, Fields, NoField, Field, Pairs, NoPair, Maps, Fails}

abbrev pub Text : Type 0
Text = List ℕ

-- texts in a row, with this one between
abbrev pub joined : Text → List Text → Text
joined between texts = join_by (λ text. text) between texts

-- A character between two of these quotes: a backslash stands before a backslash and before the
-- quote, and the characters below U+0020 and U+007F are written by a letter or by their number
abbrev pub escaped : (quote c : ℕ) → Text
escaped quote c =
    if (c == 92) || (c == quote) then 92 ∷ c ∷ []
    else (if c == 10 then codes "\\n"
    else (if c == 13 then codes "\\r"
    else (if c == 9 then codes "\\t"
    else (if nat_lt c 32 || (c == 127) then codes "\\" ++ decimal c ++ codes ";"
    else c ∷ []))))

abbrev pub quoted : (quote : ℕ) → List ℕ → Text
quoted quote characters = quote ∷ (join_by (escaped quote) [] characters ++ quote ∷ [])

-- characters between single quotes, and between double quotes
abbrev pub single_quoted : List ℕ → Text
single_quoted = quoted 39

abbrev pub double_quoted : List ℕ → Text
double_quoted = quoted 34

-- a first part of the pairs along the right: a character, or the text of another element
pub data Part : Type 0 where
  Letter : (c : ℕ) → Part
  Other : Text → Part

abbrev pub part_text : Part → Text
part_text (Letter c) = single_quoted (c ∷ [])
part_text (Other text) = text

-- the parts of a sequence, with those characters together that stand side by side
pub data Piece : Type 0 where
  Run : List ℕ → Piece
  Alone : Text → Piece

abbrev pub piece_text : Piece → Text
piece_text (Run characters) = single_quoted characters
piece_text (Alone text) = text

abbrev pub pieces_with : Part → List Piece → List Piece
pieces_with (Letter c) (Run characters ∷ pieces) = Run (c ∷ characters) ∷ pieces
pieces_with (Letter c) pieces = Run (c ∷ []) ∷ pieces
pieces_with (Other text) pieces = Alone text ∷ pieces

abbrev pub pieces_of : List Part → List Piece
pieces_of [] = []
pieces_of (part ∷ parts) = pieces_with part (pieces_of parts)

-- a sequence of characters alone is a text; any other stands in brackets
abbrev pub sequence_text : List Piece → Text
sequence_text (Run characters ∷ []) = double_quoted characters
sequence_text pieces = codes "[" ++ joined (codes " ") (map piece_text pieces) ++ codes "]"

-- what stands along the right of an element: first parts of pairs, and the text of what stands at
-- the end, unless it is the atom `nil`
pub record Spine : Type 0 where
  pub parts : List Part
  pub end : Option Text

-- pairs that end in `nil` are a sequence, and others a tuple
abbrev pub spine_text : List Part → Option Text → Text
spine_text parts None = sequence_text (pieces_of parts)
spine_text parts (Some end) =
    codes "(" ++ joined (codes ", ") (map part_text parts) ++ codes ", " ++ end ++ codes ")"

-- how an element is written: by itself, as a first part, along the right, and as the fields between
-- braces
pub record Printed : Type 0 where
  pub text : Text
  pub part : Part
  pub spine : Spine
  pub fields : List Text

-- what is no pair and no record
abbrev pub plainly : Text → Printed
plainly text = record {
  text = text;
  part = Other text;
  spine = record { parts = []; end = Some text };
  fields = [];
}

abbrev pub letter_printed : ℕ → Printed
letter_printed c =
    let text = single_quoted (c ∷ []) in
    record {
      text = text;
      part = Letter c;
      spine = record { parts = []; end = Some text };
      fields = [];
    }

-- the atom `nil` is the empty sequence
abbrev pub nil_printed : Printed
nil_printed = record {
  text = codes "[]";
  part = Other (codes "[]");
  spine = record { parts = []; end = None };
  fields = [];
}

abbrev pub atom_printed : Name → Printed
atom_printed name = if bytes_eq name (codes "nil") then nil_printed else plainly (codes "`" ++ name)

abbrev pub pair_printed : Printed → Printed → Printed
pair_printed first second =
    let parts = first.part ∷ second.spine.parts in
    let text = spine_text parts second.spine.end in
    record {
      text = text;
      part = Other text;
      spine = record { parts = parts; end = second.spine.end };
      fields = [];
    }

abbrev pub record_printed : List Text → Printed
record_printed fields =
    let text = codes "{" ++ joined (codes "; ") fields ++ codes "}" in
    record {
      text = text;
      part = Other text;
      spine = record { parts = []; end = Some text };
      fields = fields;
    }

abbrev pub xml_printed : Name → Printed → Printed → Printed
xml_printed tag attributes content =
    plainly (codes "<" ++ joined (codes " ") (tag ∷ attributes.fields) ++ codes ">" ++ content.text)

-- the name of a tag; what is no atom is none
abbrev pub tag_name : Thing → Name
tag_name (Atom name) = name
tag_name _ = []

abbrev mutual
  pub printed : Thing → Printed
  printed (Integer n) = plainly (signed_decimal n)
  printed (Character c) = letter_printed c
  printed (Atom name) = atom_printed name
  printed (Pair first second) = pair_printed (printed first) (printed second)
  printed (Xml tag attributes content) =
      xml_printed (tag_name tag) (printed attributes) (printed content)
  printed (Record fields) = record_printed (field_texts fields)
  printed (Function pairs) =
      plainly (codes "fun{" ++ joined (codes "; ") (pair_texts pairs) ++ codes "}")
  -- what is printed of a closure says nothing of it
  printed (Closure function environment) = plainly (codes "<fun>")

  pub field_texts : Fields → List Text
  field_texts NoField = []
  field_texts (Field label value rest) = (label ++ codes "=" ++ (printed value).text)
      ∷ field_texts rest

  -- a pair that fails has a question mark in the place of the result
  pub pair_texts : Pairs → List Text
  pair_texts NoPair = []
  pair_texts (Maps argument result rest) =
      ((printed argument).text ++ codes " => " ++ (printed result).text) ∷ pair_texts rest
  pair_texts (Fails argument rest) = ((printed argument).text ++ codes " => ?") ∷ pair_texts rest

-- the canonical text
abbrev pub canonical : Thing → Text
canonical element = (printed element).text
