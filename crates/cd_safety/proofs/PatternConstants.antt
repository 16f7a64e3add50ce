-- What holds of the constants in a well made pattern: they are well made.
use Rattle.std.proofs.Common.{Bool, true, false, if◌then◌else◌}
use Rattle.cd_syntax.specs.declared.constant.Constant.{Constant}
use Rattle.cd_syntax.specs.TypeTree as type
use Rattle.cd_syntax.specs.TypeTree.{Tree, tree, Kind, Trees, NoTree, ATree, Signs, NoSign, ASign, Fields, NoField, AField, Regular}
use Rattle.cd_syntax.specs.TypeTree.{regular, RegularKind, Regulars, NoRegular, ARegular}
use Rattle.cd_syntax.specs.WellMadePattern.{IsWellMadeConstant, IsWellMadePattern, IsWellMadePatternKind, AreWellMadePatterns}
use Rattle.cd_syntax.specs.WellMadePattern.{AreWellMadePatternSigns, AreWellMadePatternFields}
use Rattle.cd_syntax.specs.WellMadePattern.{IsWellMadePatternRegular, IsWellMadePatternRegularKind, AreWellMadePatternRegulars}
use Rattle.cd_model.specs.Scope.{Scope}
use Rattle.cd_model.specs.Written.{Written}
use Rattle.cd_matching.specs.Pattern as pattern
use Rattle.cd_matching.specs.Pattern.{OfType}
use Rattle.cd_matching.specs.WrittenPattern.{in_scope, kind_has, pattern_of, kind_pattern, tuple_pattern, patterns, signed_patterns, with_rest}
use Rattle.cd_matching.specs.WrittenPattern.{field_patterns, regular_pattern, regular_kind_pattern, regular_patterns}
use Rattle.cd_safety.specs.PatternConstants.{EachConstant, EachOfAll, EachOfFields, EachOfRegular, EachOfRegulars}

-- a fact that follows for each well made constant
module _ (Fact : Constant → Type 0) (follows : (is : Constant) → IsWellMadeConstant is → Fact is) (scope : Scope) where
  -- a rest has no constant
  constants_with_rest : (fields : Fields) (rest : type.Rest) (are : pattern.Fields Written) → EachOfFields Fact are
      → EachConstant Fact (with_rest scope fields rest are)
  constants_with_rest fields type.Closed are each = each
  constants_with_rest fields type.Open are each = each
  constants_with_rest fields (type.Typed is) are each = (each, (tt, tt))

  mutual
    pub constants_of_pattern : (is : Tree) → IsWellMadePattern is → EachConstant Fact (pattern_of scope is)
    constants_of_pattern (tree span kind) made = by_test (kind_has kind) (constants_of_kind kind made)
      where
        by_test : (c : Bool) → EachConstant Fact (kind_pattern scope kind)
            → EachConstant Fact (if c then kind_pattern scope kind else OfType (in_scope scope (tree span kind)))
        by_test true each = each
        by_test false each = tt

    constants_of_kind : (kind : Kind) → IsWellMadePatternKind kind → EachConstant Fact (kind_pattern scope kind)
    constants_of_kind (type.Variable name) made = tt
    constants_of_kind (type.Default name constant) made = follows constant made.1
    constants_of_kind (type.Tuple trees) made = constants_of_tuple trees made.1
    constants_of_kind (type.Union trees) made = constants_of_all trees made
    constants_of_kind (type.Meet first signs) made = (constants_of_pattern first made.0, constants_of_signs signs made.1)
    constants_of_kind (type.Sequence is) made = constants_of_regular is made
    constants_of_kind (type.Record fields rest) made =
        constants_with_rest fields rest (field_patterns scope fields) (constants_of_fields fields made.0)
    constants_of_kind (type.Xml tag attributes content) made =
        (constants_of_pattern tag made.0, constants_of_pattern attributes made.1, constants_of_pattern content made.2)
    constants_of_kind _ made = tt

    constants_of_tuple : (trees : Trees) → AreWellMadePatterns trees → EachConstant Fact (tuple_pattern scope trees)
    constants_of_tuple NoTree made = tt
    constants_of_tuple (ATree first NoTree) made = constants_of_pattern first made.0
    constants_of_tuple (ATree first (ATree next rest)) made = (constants_of_pattern first made.0, constants_of_tuple (ATree next rest) made.1)

    constants_of_all : (trees : Trees) → AreWellMadePatterns trees → EachOfAll Fact (patterns scope trees)
    constants_of_all NoTree made = tt
    constants_of_all (ATree first rest) made = (constants_of_pattern first made.0, constants_of_all rest made.1)

    constants_of_signs : (signs : Signs) → AreWellMadePatternSigns signs → EachOfAll Fact (signed_patterns scope signs)
    constants_of_signs NoSign made = tt
    constants_of_signs (ASign true is rest) made = (constants_of_pattern is made.0, constants_of_signs rest made.1)
    constants_of_signs (ASign false is rest) made = (tt, constants_of_signs rest made.1)

    constants_of_fields : (fields : Fields) → AreWellMadePatternFields fields → EachOfFields Fact (field_patterns scope fields)
    constants_of_fields NoField made = tt
    constants_of_fields (AField label at true is rest) made = constants_of_fields rest made.2
    constants_of_fields (AField label at false is rest) made = (constants_of_pattern is made.1, constants_of_fields rest made.2)

    constants_of_regular : (r : Regular) → IsWellMadePatternRegular r → EachOfRegular Fact (regular_pattern scope r)
    constants_of_regular (regular span kind) made = constants_of_regular_kind kind made

    constants_of_regular_kind : (kind : RegularKind) → IsWellMadePatternRegularKind kind → EachOfRegular Fact (regular_kind_pattern scope kind)
    constants_of_regular_kind type.Nothing made = tt
    constants_of_regular_kind (type.Item is) made = constants_of_pattern is made
    constants_of_regular_kind (type.Seq all) made = constants_of_regulars all made
    constants_of_regular_kind (type.Alt all) made = constants_of_regulars all made
    constants_of_regular_kind (type.Repeat is post) made = constants_of_regular is made
    constants_of_regular_kind (type.Capture name is) made = constants_of_regular is made.1

    constants_of_regulars : (all : Regulars) → AreWellMadePatternRegulars all → EachOfRegulars Fact (regular_patterns scope all)
    constants_of_regulars NoRegular made = tt
    constants_of_regulars (ARegular first rest) made = (constants_of_regular first made.0, constants_of_regulars rest made.1)
