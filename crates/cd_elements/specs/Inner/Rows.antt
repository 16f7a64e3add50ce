-- Rows of elements, fields and pairs as texts.
use Rattle.std.specs.Prelude.{List, ◌++◌, Option, None, Some, map, codes}
use Rattle.std.specs.List.{flat_map}
use Rattle.cd_model.specs.Canonical.{Text, joined, pieces_of}
use Rattle.cd_syntax.specs.Name.{Name}
use Rattle.cd_model.specs.Thing.{Thing}
use Rattle.cd_elements.specs.declared.shape.ElementId.{ElementId}
use Rattle.cd_elements.specs.declared.task.Mark.{Mark}
use Rattle.cd_elements.specs.Inner.Marks.{mark_text}
use Rattle.cd_elements.specs.Inner.Tasks.{text_in, part_in, field_in}
use Rattle.cd_elements.specs.Inner.Sequences.{pieces_text}

-- texts in a row, each after a mark
abbrev pub each_after : Mark → List Text → Text
each_after mark texts = flat_map (λ text. mark_text mark ++ text) texts

-- a field, and a pair of a function
abbrev pub part_text_in : List Thing → Name × ElementId → Text
part_text_in table part = field_in table part.0 part.1

abbrev pub result_text_in : List Thing → Option ElementId → Text
result_text_in table None = codes " => ?"
result_text_in table (Some id) = codes " => " ++ text_in table id

abbrev pub pair_text_in : List Thing → ElementId × Option ElementId → Text
pair_text_in table pair = text_in table pair.0 ++ result_text_in table pair.1

-- a tuple, a sequence, a record and a function but for what they begin with
abbrev pub tuple_rest : List Thing → List ElementId → ElementId → Text
tuple_rest table firsts end =
    joined (codes ", ") (map (text_in table) firsts) ++ codes ", " ++ text_in table end ++ codes ")"

abbrev pub sequence_rest : List Thing → List ElementId → Text
sequence_rest table firsts = pieces_text (pieces_of (map (part_in table) firsts)) ++ codes "]"

abbrev pub record_rest : List Thing → List (Name × ElementId) → Text
record_rest table parts = joined (codes "; ") (map (part_text_in table) parts) ++ codes "}"

abbrev pub function_rest : List Thing → List (ElementId × Option ElementId) → Text
function_rest table pairs = joined (codes "; ") (map (pair_text_in table) pairs) ++ codes "}"
