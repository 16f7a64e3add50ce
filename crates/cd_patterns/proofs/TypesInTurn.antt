-- The types of a pattern in turn: those of a tuple, and those before other types.
use Rattle.std.proofs.Common.{◌≡◌, List, [], ◌∷◌, ◌++◌, refl, sym, ◌∙◌, append_assoc}
use Rattle.std.proofs.lemmas.List.{append-nil}
use Rattle.cd_syntax.specs.TypeTree as type
use Rattle.cd_syntax.specs.TypeTree.{Trees, NoTree, ATree, Rest, Closed, Open, Typed}
use Rattle.cd_model.specs.Written.{Written}
use Rattle.cd_matching.specs.Pattern as pattern
use Rattle.cd_matching.specs.Pattern.{Pattern, Patterns, NoPattern, APattern, Fields, NoField}
use Rattle.cd_matching.specs.Pattern.{Present, Optional, Regular, Regulars, NoRegular, ARegular}
use Rattle.cd_matching.specs.WrittenPattern.{pattern_of, kind_pattern, tuple_pattern, patterns}
use Rattle.cd_matching.specs.WrittenPattern.{field_patterns}
use Rattle.cd_patterns.specs.Inner.Types.{types_after, all_after, fields_after, regular_after}
use Rattle.cd_patterns.specs.Inner.Types.{regulars_after, rest_after}

-- those of a tuple are those of its trees
pub tuple_after : (trees : Trees) (made : List Written)
    → types_after (tuple_pattern [] trees) made ≡ all_after (patterns [] trees) made
tuple_after NoTree made = refl
tuple_after (ATree first NoTree) made = refl
tuple_after (ATree first (ATree next rest)) made =
    tuple_after (ATree next rest) (types_after (pattern_of [] first) made)

-- those of a record are those of its fields, and its rest
pub record_after : (fields : type.Fields) (rest : Rest) (made : List Written)
    → types_after (kind_pattern [] (type.Record fields rest)) made
    ≡ rest_after fields rest (fields_after (field_patterns [] fields) made)
record_after fields Closed made = refl
record_after fields Open made = refl
record_after fields (Typed is) made = refl

-- the types of a pattern before these
abbrev mutual
  pub types_before : {T : Type 0} → Pattern T → List T → List T
  types_before (pattern.OfType type) more = type ∷ more
  types_before (pattern.Bind name) more = more
  types_before (pattern.Default name constant) more = more
  types_before (pattern.Pair first second) more = types_before first (types_before second more)
  types_before (pattern.Xml tag attributes content) more =
      types_before tag (types_before attributes (types_before content more))
  types_before (pattern.Record fields also) more = fields_before fields more
  types_before (pattern.Both all) more = all_before all more
  types_before (pattern.First all) more = all_before all more
  types_before (pattern.Sequence is) more = regular_before is more

  pub all_before : {T : Type 0} → Patterns T → List T → List T
  all_before NoPattern more = more
  all_before (APattern first rest) more = types_before first (all_before rest more)

  pub fields_before : {T : Type 0} → Fields T → List T → List T
  fields_before NoField more = more
  fields_before (Present label is rest) more = types_before is (fields_before rest more)
  fields_before (Optional label type rest) more = type ∷ fields_before rest more

  pub regular_before : {T : Type 0} → Regular T → List T → List T
  regular_before pattern.Nothing more = more
  regular_before (pattern.Item is) more = types_before is more
  regular_before (pattern.Seq all) more = regulars_before all more
  regular_before (pattern.Alt all) more = regulars_before all more
  regular_before (pattern.Repeat is post) more = regular_before is more
  regular_before (pattern.Capture name is) more = regular_before is more

  pub regulars_before : {T : Type 0} → Regulars T → List T → List T
  regulars_before NoRegular more = more
  regulars_before (ARegular first rest) more = regular_before first (regulars_before rest more)

-- between others they are the same
mutual
  between : {T : Type 0} (p : Pattern T) (made more : List T)
      → types_after p made ++ more ≡ made ++ types_before p more
  between (pattern.OfType type) made more = append_assoc made (type ∷ []) more
  between (pattern.Bind name) made more = refl
  between (pattern.Default name constant) made more = refl
  between (pattern.Pair first second) made more =
      between second (types_after first made) more ∙ between first made (types_before second more)
  between (pattern.Xml tag attributes content) made more =
      between content (types_after attributes (types_after tag made)) more
      ∙ between attributes (types_after tag made) (types_before content more)
      ∙ between tag made (types_before attributes (types_before content more))
  between (pattern.Record fields also) made more = fields_between fields made more
  between (pattern.Both all) made more = all_between all made more
  between (pattern.First all) made more = all_between all made more
  between (pattern.Sequence is) made more = regular_between is made more

  all_between : {T : Type 0} (all : Patterns T) (made more : List T)
      → all_after all made ++ more ≡ made ++ all_before all more
  all_between NoPattern made more = refl
  all_between (APattern first rest) made more =
      all_between rest (types_after first made) more ∙ between first made (all_before rest more)

  fields_between : {T : Type 0} (fields : Fields T) (made more : List T)
      → fields_after fields made ++ more ≡ made ++ fields_before fields more
  fields_between NoField made more = refl
  fields_between (Present label is rest) made more =
      fields_between rest (types_after is made) more ∙ between is made (fields_before rest more)
  fields_between (Optional label type rest) made more =
      fields_between rest (made ++ type ∷ []) more ∙ append_assoc made (type ∷ [])
      (fields_before rest more)

  regular_between : {T : Type 0} (is : Regular T) (made more : List T)
      → regular_after is made ++ more ≡ made ++ regular_before is more
  regular_between pattern.Nothing made more = refl
  regular_between (pattern.Item is) made more = between is made more
  regular_between (pattern.Seq all) made more = regulars_between all made more
  regular_between (pattern.Alt all) made more = regulars_between all made more
  regular_between (pattern.Repeat is post) made more = regular_between is made more
  regular_between (pattern.Capture name is) made more = regular_between is made more

  regulars_between : {T : Type 0} (all : Regulars T) (made more : List T)
      → regulars_after all made ++ more ≡ made ++ regulars_before all more
  regulars_between NoRegular made more = refl
  regulars_between (ARegular first rest) made more =
      regulars_between rest (regular_after first made) more
      ∙ regular_between first made (regulars_before rest more)

-- with no others before or after they are all of them
pub all_types : {T : Type 0} (p : Pattern T) → types_after p [] ≡ types_before p []
all_types p = sym (append-nil (types_after p [])) ∙ between p [] []
