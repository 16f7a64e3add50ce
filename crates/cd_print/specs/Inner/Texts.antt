-- Values of a table as texts, and what is left of such texts.
use Rattle.std.specs.Prelude.{ℕ, List, [], ◌∷◌, ◌++◌, Option, None, Some, map, codes}
use Rattle.std.specs.List.{flat_map}
use Rattle.cd_model.specs.Canonical.{Text, Part, Letter, Spine, escaped, joined, part_text}
use Rattle.cd_model.specs.Canonical.{pieces_of, piece_text, printed, canonical, field_texts}
use Rattle.cd_cells.specs.declared.cell.Part as cell
use Rattle.cd_cells.specs.declared.cell.ValueId.{ValueId}
use Rattle.cd_cells.specs.declared.values.Values.{Values}
use Rattle.cd_cells.specs.Cells.{thing_at, name_at, fields_of}
use Rattle.cd_cells.specs.Table.{table, names}

-- a value as a text, as a first part of a pair, and what stands along its right
abbrev pub text_at : Values → ValueId → Text
text_at values id = canonical (thing_at (table values) id.0)

abbrev pub part_at : Values → ValueId → Part
part_at values id = (printed (thing_at (table values) id.0)).part

abbrev pub spine_at : Values → ValueId → Spine
spine_at values id = (printed (thing_at (table values) id.0)).spine

-- fields as texts
abbrev pub field_texts_at : Values → List cell.Part → List Text
field_texts_at values parts = field_texts (fields_of (names values) (table values) parts)

abbrev pub field_at : Values → cell.Part → Text
field_at values part = name_at (names values) part.label ++ codes "="
    ++ canonical (thing_at (table values) part.value)

-- the characters that parts begin with, and the parts after them
abbrev pub letters : List Part → List ℕ
letters (Letter c ∷ parts) = c ∷ letters parts
letters _ = []

abbrev pub others : List Part → List Part
others (Letter c ∷ parts) = others parts
others parts = parts

-- characters between two of these quotes
abbrev pub escapes : (quote : ℕ) → List ℕ → Text
escapes quote characters = flat_map (escaped quote) characters

abbrev pub enclosed : (quote : ℕ) → List ℕ → Text
enclosed quote characters = quote ∷ (escapes quote characters ++ quote ∷ [])

-- a sequence after its bracket, and after one of its items
abbrev pub items_text : List Part → Text
items_text parts = joined (codes " ") (map piece_text (pieces_of parts)) ++ codes "]"

abbrev pub after_item : List Part → Text
after_item [] = codes "]"
after_item (part ∷ parts) = codes " " ++ items_text (part ∷ parts)

-- what stands at the end of pairs
abbrev pub end_text : Option Text → Text
end_text None = codes "[]"
end_text (Some text) = text

-- a tuple after its parenthesis, and after one of its parts
abbrev pub parts_text : List Part → (end : Text) → Text
parts_text [] end = end ++ codes ")"
parts_text (part ∷ parts) end = part_text part ++ (codes ", " ++ parts_text parts end)

abbrev pub after_part : List Part → (end : Text) → Text
after_part parts end = codes ", " ++ parts_text parts end

-- a record after one of its fields
abbrev pub after_field : List Text → Text
after_field texts = flat_map (λ text. codes "; " ++ text) texts ++ codes "}"

-- attributes, and the content of their XML value
abbrev pub attributes_text : Values → List cell.Part → (content : ValueId) → Text
attributes_text values parts content =
    flat_map (λ text. codes " " ++ text) (field_texts_at values parts) ++ codes ">"
    ++ text_at values content
