-- The variables of a pattern, as tests of names.
use Rattle.std.specs.Prelude.{Bool, false, ◌||◌, bytes_eq}
use Rattle.cd_syntax.specs.Name.{Name}
use Rattle.cd_matching.specs.Pattern.{Pattern, OfType, Bind, Default, Pair, Xml, Record, Both}
use Rattle.cd_matching.specs.Pattern.{First, Sequence, Patterns, NoPattern, APattern, Fields}
use Rattle.cd_matching.specs.Pattern.{NoField, Present, Optional, Regular, Nothing, Item, Seq, Alt}
use Rattle.cd_matching.specs.Pattern.{Repeat, Capture, Regulars, NoRegular, ARegular}

-- a variable stands in a pattern
abbrev mutual
  pub binds : {T : Type 0} → Pattern T → Name → Bool
  binds (OfType type) name = false
  binds (Bind variable) name = bytes_eq variable name
  binds (Default variable constant) name = bytes_eq variable name
  binds (Pair first second) name = binds first name || binds second name
  binds (Xml tag attributes content) name =
      binds tag name || (binds attributes name || binds content name)
  binds (Record fields more) name = fields_bind fields name
  binds (Both all) name = all_bind all name
  binds (First all) name = all_bind all name
  binds (Sequence r) name = regular_binds r name

  pub all_bind : {T : Type 0} → Patterns T → Name → Bool
  all_bind NoPattern name = false
  all_bind (APattern first rest) name = binds first name || all_bind rest name

  pub fields_bind : {T : Type 0} → Fields T → Name → Bool
  fields_bind NoField name = false
  fields_bind (Present label p rest) name = binds p name || fields_bind rest name
  fields_bind (Optional label type rest) name = fields_bind rest name

  pub regular_binds : {T : Type 0} → Regular T → Name → Bool
  regular_binds Nothing name = false
  regular_binds (Item p) name = binds p name
  regular_binds (Seq all) name = regulars_bind all name
  regular_binds (Alt all) name = regulars_bind all name
  regular_binds (Repeat r post) name = regular_binds r name
  regular_binds (Capture variable r) name = bytes_eq variable name || regular_binds r name

  pub regulars_bind : {T : Type 0} → Regulars T → Name → Bool
  regulars_bind NoRegular name = false
  regulars_bind (ARegular first rest) name = regular_binds first name || regulars_bind rest name

-- a variable gathers items in this very expression
abbrev mutual
  pub is_gathered : {T : Type 0} → Regular T → Name → Bool
  is_gathered Nothing name = false
  is_gathered (Item p) name = false
  is_gathered (Seq all) name = one_is_gathered all name
  is_gathered (Alt all) name = one_is_gathered all name
  is_gathered (Repeat r post) name = is_gathered r name
  is_gathered (Capture variable r) name = bytes_eq variable name || is_gathered r name

  pub one_is_gathered : {T : Type 0} → Regulars T → Name → Bool
  one_is_gathered NoRegular name = false
  one_is_gathered (ARegular first rest) name = is_gathered first name || one_is_gathered rest name

-- a plain variable of an expression: one that stands in an item of it
abbrev mutual
  pub is_plain : {T : Type 0} → Regular T → Name → Bool
  is_plain Nothing name = false
  is_plain (Item p) name = binds p name
  is_plain (Seq all) name = one_is_plain all name
  is_plain (Alt all) name = one_is_plain all name
  is_plain (Repeat r post) name = is_plain r name
  is_plain (Capture variable r) name = is_plain r name

  pub one_is_plain : {T : Type 0} → Regulars T → Name → Bool
  one_is_plain NoRegular name = false
  one_is_plain (ARegular first rest) name = is_plain first name || one_is_plain rest name

-- a label is named
abbrev pub names_label : {T : Type 0} → Fields T → Name → Bool
names_label NoField label = false
names_label (Present name p rest) label = bytes_eq name label || names_label rest label
names_label (Optional name type rest) label = bytes_eq name label || names_label rest label
