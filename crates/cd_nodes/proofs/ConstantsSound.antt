-- The constants of a well made pattern are values where they are in range.
use Rattle.std.proofs.Common.{ℕ, Bool, true, false, List, [], ◌∷◌, if◌then◌else◌}
use Rattle.cd_syntax.specs.declared.constant.Constant.{Constant}
use Rattle.cd_syntax.specs.declared.constant.Constant.TheVariants as constant
use Rattle.cd_syntax.specs.TypeTree as type
use Rattle.cd_syntax.specs.TypeTree.{Tree, tree, Kind, Trees, NoTree, ATree, Signs, NoSign, ASign, Fields, NoField, AField}
use Rattle.cd_syntax.specs.TypeTree.{Regular, regular, RegularKind, Regulars, NoRegular, ARegular}
use Rattle.cd_syntax.specs.WellMadePattern.{IsWellMadeConstant, IsWellMadePattern, IsWellMadePatternKind}
use Rattle.cd_syntax.specs.WellMadePattern.{AreWellMadePatterns, AreWellMadePatternSigns, AreWellMadePatternFields}
use Rattle.cd_syntax.specs.WellMadePattern.{IsWellMadePatternRegular, IsWellMadePatternRegularKind}
use Rattle.cd_syntax.specs.WellMadePattern.{AreWellMadePatternRegulars}
use Rattle.cd_model.specs.Scope.{Scope}
use Rattle.cd_model.specs.Thing.{IsElement, IsValue}
use Rattle.cd_model.specs.Written.{Written}
use Rattle.cd_matching.specs.Pattern as pattern
use Rattle.cd_matching.specs.Pattern.{OfType}
use Rattle.cd_matching.specs.Sequences.{text_of}
use Rattle.cd_matching.specs.WrittenPattern.{in_scope, kind_has, pattern_of, kind_pattern, tuple_pattern, patterns}
use Rattle.cd_matching.specs.WrittenPattern.{signed_patterns, with_rest, field_patterns, regular_pattern}
use Rattle.cd_matching.specs.WrittenPattern.{regular_kind_pattern, regular_patterns}
use Rattle.cd_safety.specs.PatternConstants.{EachConstant, EachOfAll, EachOfFields, EachOfRegular, EachOfRegulars}
use Rattle.cd_safety.specs.PatternConstants.{IsSoundConstant}
use Rattle.cd_nodes.specs.ConstantsInRange.{IsInRange, ConstantsInRange, KindInRange, AllInRange, SignsInRange, FieldsInRange}
use Rattle.cd_nodes.specs.ConstantsInRange.{RegularInRange, RegularKindInRange, RegularsInRange}

-- a well made constant in range is a value
text_is_value : (characters : List ℕ) → IsElement (text_of characters) → IsValue (text_of characters)
text_is_value [] element = element
text_is_value (c ∷ characters) element = (element.0, text_is_value characters element.1)

is_value : (is : Constant) → IsWellMadeConstant is → IsInRange is → IsSoundConstant is
is_value (constant.Int n) made within = within
is_value (constant.Char c) made within = within
is_value (constant.Atom name) made within = made
is_value (constant.Text characters) made within = text_is_value characters within
is_value constant.Nil made within = within

module _ (scope : Scope) where
  -- a rest has no constant
  with_rest_sound : (fields : Fields) (rest : type.Rest) (are : pattern.Fields Written) → EachOfFields IsSoundConstant are
      → EachConstant IsSoundConstant (with_rest scope fields rest are)
  with_rest_sound fields type.Closed are each = each
  with_rest_sound fields type.Open are each = each
  with_rest_sound fields (type.Typed is) are each = (each, (tt, tt))

  mutual
    pub constants_sound : (is : Tree) → IsWellMadePattern is → ConstantsInRange is
        → EachConstant IsSoundConstant (pattern_of scope is)
    constants_sound (tree span kind) made within = by_test (kind_has kind) (kind_sound kind made within)
      where
        by_test : (has : Bool) → EachConstant IsSoundConstant (kind_pattern scope kind)
            → EachConstant IsSoundConstant
            (if has then kind_pattern scope kind else OfType (in_scope scope (tree span kind)))
        by_test true each = each
        by_test false each = tt

    kind_sound : (kind : Kind) → IsWellMadePatternKind kind → KindInRange kind
        → EachConstant IsSoundConstant (kind_pattern scope kind)
    kind_sound (type.Default name constant) made within = is_value constant made.1 within
    kind_sound (type.Tuple trees) made within = tuple_sound trees made.1 within
    kind_sound (type.Union trees) made within = all_sound trees made within
    kind_sound (type.Meet first signs) made within =
        (constants_sound first made.0 within.0, signs_sound signs made.1 within.1)
    kind_sound (type.Sequence is) made within = regular_sound is made within
    kind_sound (type.Record fields rest) made within =
        with_rest_sound fields rest (field_patterns scope fields) (fields_sound fields made.0 within.0)
    kind_sound (type.Xml tag attributes content) made within = (
      constants_sound tag made.0 within.0,
      constants_sound attributes made.1 within.1,
      constants_sound content made.2 within.2,
    )
    kind_sound _ made within = tt

    tuple_sound : (trees : Trees) → AreWellMadePatterns trees → AllInRange trees
        → EachConstant IsSoundConstant (tuple_pattern scope trees)
    tuple_sound NoTree made within = tt
    tuple_sound (ATree first NoTree) made within = constants_sound first made.0 within.0
    tuple_sound (ATree first (ATree next rest)) made within =
        (constants_sound first made.0 within.0, tuple_sound (ATree next rest) made.1 within.1)

    all_sound : (trees : Trees) → AreWellMadePatterns trees → AllInRange trees
        → EachOfAll IsSoundConstant (patterns scope trees)
    all_sound NoTree made within = tt
    all_sound (ATree first rest) made within =
        (constants_sound first made.0 within.0, all_sound rest made.1 within.1)

    signs_sound : (signs : Signs) → AreWellMadePatternSigns signs → SignsInRange signs
        → EachOfAll IsSoundConstant (signed_patterns scope signs)
    signs_sound NoSign made within = tt
    signs_sound (ASign true is rest) made within =
        (constants_sound is made.0 within.0, signs_sound rest made.1 within.1)
    signs_sound (ASign false is rest) made within = (tt, signs_sound rest made.1 within.1)

    fields_sound : (fields : Fields) → AreWellMadePatternFields fields → FieldsInRange fields
        → EachOfFields IsSoundConstant (field_patterns scope fields)
    fields_sound NoField made within = tt
    fields_sound (AField label at true is rest) made within = fields_sound rest made.2 within.1
    fields_sound (AField label at false is rest) made within =
        (constants_sound is made.1 within.0, fields_sound rest made.2 within.1)

    regular_sound : (r : Regular) → IsWellMadePatternRegular r → RegularInRange r
        → EachOfRegular IsSoundConstant (regular_pattern scope r)
    regular_sound (regular span kind) made within = regular_kind_sound kind made within

    regular_kind_sound : (kind : RegularKind) → IsWellMadePatternRegularKind kind → RegularKindInRange kind
        → EachOfRegular IsSoundConstant (regular_kind_pattern scope kind)
    regular_kind_sound type.Nothing made within = tt
    regular_kind_sound (type.Item is) made within = constants_sound is made within
    regular_kind_sound (type.Seq all) made within = regulars_sound all made within
    regular_kind_sound (type.Alt all) made within = regulars_sound all made within
    regular_kind_sound (type.Repeat is post) made within = regular_sound is made within
    regular_kind_sound (type.Capture name is) made within = regular_sound is made.1 within

    regulars_sound : (all : Regulars) → AreWellMadePatternRegulars all → RegularsInRange all
        → EachOfRegulars IsSoundConstant (regular_patterns scope all)
    regulars_sound NoRegular made within = tt
    regulars_sound (ARegular first rest) made within =
        (regular_sound first made.0 within.0, regulars_sound rest made.1 within.1)
