-- The rows of a clause of records: each says of every label what a record may have there.
use Rattle.std.specs.Prelude.{Bool, false, ◌&&◌, not, List, [], ◌∷◌, ◌++◌, map, Option, Some, None}
use Rattle.std.specs.Prelude.{bytes_eq, if◌then◌else◌}
use Rattle.std.specs.List.{list_all, list_any}
use Rattle.cd_sets.specs.declared.question.Question.{Question}
use Rattle.cd_syntax.specs.Name.{Name}
use Rattle.cd_model.specs.Formula.{Field, field_of}
use Rattle.cd_rules.specs.Clauses.{RecordType}
use Rattle.cd_rules.specs.Needs.{question}

-- what a row says of one label: whether nothing may stand there, and what a value there is
pub record Cell : Type 0 where
  pub absent : Bool
  pub value : Question

-- A record is in a row where at each label of `cells` it has nothing, if that may be, or a value of
-- the cell; where at each other label it has nothing or a value of `every`; and where it has, for
-- each question of `some`, a value of it at a label of no cell
pub record Row : Type 0 where
  pub cells : List (Name × Cell)
  pub every : Question
  pub some : List Question

-- what a record type says of a label
abbrev pub field_at : RecordType → Name → Field
field_at type label = field_of type.named type.rest label

-- the labels that record types name, each once
abbrev pub with_label : Name → List Name → List Name
with_label label labels = if list_any (bytes_eq label) labels then labels else label ∷ labels

abbrev pub labels_after : List Name → List Name → List Name
labels_after [] labels = labels
labels_after (label ∷ rest) labels = with_label label (labels_after rest labels)

abbrev pub labels_of : List RecordType → List Name
labels_of [] = []
labels_of (type ∷ types) = labels_after (map (λ field. field.0) type.named) (labels_of types)

-- A record is outside a refused type at a label that some type of the clause names, or at one that
-- none names: this is its reason
abbrev pub Reason : Type 0
Reason = Option Name

-- a choice of reasons: each refused type with its reason
abbrev pub Reasons : Type 0
Reasons = List (RecordType × Reason)

abbrev pub each_with : RecordType → List Reason → List Reasons → List Reasons
each_with type [] others = []
each_with type (reason ∷ reasons) others =
    map (λ chosen. (type, reason) ∷ chosen) others ++ each_with type reasons others

abbrev pub reasons_of : List Name → (refused : List RecordType) → List Reasons
reasons_of labels [] = [] ∷ []
reasons_of labels (type ∷ refused) =
    each_with type (None ∷ map Some labels) (reasons_of labels refused)

-- the refused types that have this label as their reason, and those whose reason is a label that no
-- type names
abbrev pub is_reason : Name → Reason → Bool
is_reason label (Some other) = bytes_eq other label
is_reason label None = false

abbrev pub types_at : Name → Reasons → List RecordType
types_at label [] = []
types_at label (one ∷ reasons) =
    if is_reason label one.1 then one.0 ∷ types_at label reasons else types_at label reasons

abbrev pub types_elsewhere : Reasons → List RecordType
types_elsewhere [] = []
types_elsewhere ((type, None) ∷ reasons) = type ∷ types_elsewhere reasons
types_elsewhere ((type, Some label) ∷ reasons) = types_elsewhere reasons

-- nothing may stand at a label where each wanted type lets the field be absent, and no type that is
-- refused there does
abbrev pub cell_at : (wanted : List RecordType) → Reasons → Name → Cell
cell_at wanted reasons label = record {
  absent = list_all (λ type. (field_at type label).optional) wanted
      && list_all (λ type. not (field_at type label).optional) (types_at label reasons);
  value = question (map (λ type. (field_at type label).type) wanted)
      (map (λ type. (field_at type label).type) (types_at label reasons));
}

abbrev pub row_of : (labels : List Name) (wanted : List RecordType) → Reasons → Row
row_of labels wanted reasons = record {
  cells = map (λ label. (label, cell_at wanted reasons label)) labels;
  every = question (map (λ type. type.rest) wanted) [];
  some = map (λ type. question (map (λ type. type.rest) wanted) (type.rest ∷ []))
      (types_elsewhere reasons);
}

-- one row for each choice of reasons
abbrev pub rows_of : (wanted refused : List RecordType) → List Row
rows_of wanted refused =
    map (row_of (labels_of (wanted ++ refused)) wanted)
    (reasons_of (labels_of (wanted ++ refused)) refused)
