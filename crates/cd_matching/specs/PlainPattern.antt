-- The patterns of the code as plain data.
use Rattle.std.specs.Prelude.{List, [], ◌∷◌}
use Rattle.cd_sets.specs.declared.node_id.NodeId.{NodeId}
use Rattle.cd_matching.specs.Pattern.{Pattern, OfType, Bind, Default, Pair, Xml, Record, Both, First}
use Rattle.cd_matching.specs.Pattern.{Sequence, Patterns, Fields, NoField, Present, Optional}
use Rattle.cd_matching.specs.Pattern.{Regular, Nothing, Item, Seq, Alt, Repeat, Capture, Regulars}
use Rattle.cd_matching.specs.Pattern.{patterns_of, regulars_of}
use Rattle.cd_matching.specs.declared.pattern.Pat.TheOpen as layer
use Rattle.cd_matching.specs.declared.pattern.Pat.{Pat, Pat-F, fold-Pat}
use Rattle.cd_matching.specs.declared.pattern.PatField.{PatField, PatField-F, fold-PatField}
use Rattle.cd_matching.specs.declared.pattern.PatFields.{PatFields, PatFields-F, fold-PatFields}
use Rattle.cd_matching.specs.declared.pattern.Pats.{Pats, Pats-F, fold-Pats}
use Rattle.cd_matching.specs.declared.pattern.RegPat.{RegPat, RegPat-F, fold-RegPat}
use Rattle.cd_matching.specs.declared.pattern.RegPats.{RegPats, RegPats-F, fold-RegPats}

-- one field, which is put before others
abbrev pub Field : Type 0
Field = Fields NodeId → Fields NodeId

abbrev pub fields_of : List Field → Fields NodeId
fields_of [] = NoField
fields_of (first ∷ rest) = first (fields_of rest)

-- one layer of each, whose parts are plain
abbrev pub pattern_layer : Pat-F (Pattern NodeId) Field (Regular NodeId) (Fields NodeId)
    (Patterns NodeId) (Regulars NodeId) → Pattern NodeId
pattern_layer (layer.OfType type) = OfType type
pattern_layer (layer.Bind name) = Bind name
pattern_layer (layer.Default name constant) = Default name constant
pattern_layer (layer.Pair first second) = Pair first.value second.value
pattern_layer (layer.Xml tag attributes content) = Xml tag.value attributes.value content.value
pattern_layer (layer.Record fields more) = Record fields more
pattern_layer (layer.Both all) = Both all
pattern_layer (layer.First all) = First all
pattern_layer (layer.Sequence is) = Sequence is.value

abbrev pub field_layer : PatField-F (Pattern NodeId) Field (Regular NodeId) (Fields NodeId)
    (Patterns NodeId) (Regulars NodeId) → Field
field_layer (layer.Present label is) = Present label is
field_layer (layer.Optional label type) = Optional label type

abbrev pub regular_layer : RegPat-F (Pattern NodeId) Field (Regular NodeId) (Fields NodeId)
    (Patterns NodeId) (Regulars NodeId) → Regular NodeId
regular_layer layer.Nothing = Nothing
regular_layer (layer.Item is) = Item is.value
regular_layer (layer.Seq all) = Seq all
regular_layer (layer.Alt all) = Alt all
regular_layer (layer.Repeat is post) = Repeat is.value post
regular_layer (layer.Capture name is) = Capture name is.value

abbrev pub fields_layer : PatFields-F (Pattern NodeId) Field (Regular NodeId) (Fields NodeId)
    (Patterns NodeId) (Regulars NodeId) → Fields NodeId
fields_layer list = fields_of list.items.items

abbrev pub patterns_layer : Pats-F (Pattern NodeId) Field (Regular NodeId) (Fields NodeId)
    (Patterns NodeId) (Regulars NodeId) → Patterns NodeId
patterns_layer list = patterns_of list.items.items

abbrev pub regulars_layer : RegPats-F (Pattern NodeId) Field (Regular NodeId) (Fields NodeId)
    (Patterns NodeId) (Regulars NodeId) → Regulars NodeId
regulars_layer list = regulars_of list.items.items

-- the plain data that each is
abbrev pub plain : Pat → Pattern NodeId
plain = fold-Pat (Pattern NodeId) Field (Regular NodeId) (Fields NodeId) (Patterns NodeId)
    (Regulars NodeId) pattern_layer field_layer regular_layer fields_layer patterns_layer
    regulars_layer

abbrev pub plain_field : PatField → Field
plain_field = fold-PatField (Pattern NodeId) Field (Regular NodeId) (Fields NodeId)
    (Patterns NodeId) (Regulars NodeId) pattern_layer field_layer regular_layer fields_layer
    patterns_layer regulars_layer

abbrev pub plain_regular : RegPat → Regular NodeId
plain_regular = fold-RegPat (Pattern NodeId) Field (Regular NodeId) (Fields NodeId)
    (Patterns NodeId) (Regulars NodeId) pattern_layer field_layer regular_layer fields_layer
    patterns_layer regulars_layer

abbrev pub plain_fields : PatFields → Fields NodeId
plain_fields = fold-PatFields (Pattern NodeId) Field (Regular NodeId) (Fields NodeId)
    (Patterns NodeId) (Regulars NodeId) pattern_layer field_layer regular_layer fields_layer
    patterns_layer regulars_layer

abbrev pub plain_all : Pats → Patterns NodeId
plain_all = fold-Pats (Pattern NodeId) Field (Regular NodeId) (Fields NodeId) (Patterns NodeId)
    (Regulars NodeId) pattern_layer field_layer regular_layer fields_layer patterns_layer
    regulars_layer

abbrev pub plain_regulars : RegPats → Regulars NodeId
plain_regulars = fold-RegPats (Pattern NodeId) Field (Regular NodeId) (Fields NodeId)
    (Patterns NodeId) (Regulars NodeId) pattern_layer field_layer regular_layer fields_layer
    patterns_layer regulars_layer
