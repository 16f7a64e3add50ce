-- A well made type is a well made pattern, and well made declarations are so as patterns are.
use Rattle.cd_syntax.specs.TypeTree as type
use Rattle.cd_syntax.specs.TypeTree.{Tree, tree, Kind, Trees, NoTree, ATree, Signs, NoSign, ASign}
use Rattle.cd_syntax.specs.TypeTree.{Fields, NoField, AField, Declarations, NoDeclaration}
use Rattle.cd_syntax.specs.TypeTree.{ADeclaration, Regular, regular, RegularKind, Regulars}
use Rattle.cd_syntax.specs.TypeTree.{NoRegular, ARegular, Rest, Closed, Open, Typed}
use Rattle.cd_syntax.specs.WellMade.{IsWellMade, IsWellMadeKind, AreWellMade, AreWellMadeSigns}
use Rattle.cd_syntax.specs.WellMade.{AreWellMadeFields, IsWellMadeRest, AreWellMadeDeclarations}
use Rattle.cd_syntax.specs.WellMade.{IsWellMadeRegular, IsWellMadeRegularKind, AreWellMadeRegulars}
use Rattle.cd_syntax.specs.WellMadePattern.{IsWellMadePattern, IsWellMadePatternKind}
use Rattle.cd_syntax.specs.WellMadePattern.{AreWellMadePatterns, AreWellMadePatternSigns}
use Rattle.cd_syntax.specs.WellMadePattern.{AreWellMadePatternFields, IsWellMadePatternRest}
use Rattle.cd_syntax.specs.WellMadePattern.{AreWellMadePatternDeclarations}
use Rattle.cd_syntax.specs.WellMadePattern.{IsWellMadePatternRegular}
use Rattle.cd_syntax.specs.WellMadePattern.{IsWellMadePatternRegularKind}
use Rattle.cd_syntax.specs.WellMadePattern.{AreWellMadePatternRegulars}

mutual
  pub type_is_pattern : (is : Tree) → IsWellMade is → IsWellMadePattern is
  type_is_pattern (tree span kind) well = kind_is_pattern kind well

  kind_is_pattern : (kind : Kind) → IsWellMadeKind kind → IsWellMadePatternKind kind
  kind_is_pattern (type.Builtin name) well = tt
  kind_is_pattern (type.Ints low high) well = tt
  kind_is_pattern (type.Chars low high) well = tt
  kind_is_pattern (type.Atom name) well = well
  kind_is_pattern (type.Text text) well = tt
  kind_is_pattern (type.Tuple trees) well = (well.0, types_are_patterns trees well.1)
  kind_is_pattern (type.Arrows trees) well = (well.0, types_are_patterns trees well.1)
  kind_is_pattern (type.Union trees) well = types_are_patterns trees well
  kind_is_pattern (type.Meet first signs) well =
      (type_is_pattern first well.0, signs_are_patterns signs well.1)
  kind_is_pattern (type.Sequence is) well = regular_is_pattern is well
  kind_is_pattern (type.Record fields rest) well =
      (fields_are_patterns fields well.0, rest_is_pattern rest well.1)
  kind_is_pattern (type.Xml tag attributes content) well =
      (type_is_pattern tag well.0, type_is_pattern attributes well.1, type_is_pattern content well.2)
  kind_is_pattern (type.Named name) well = tt
  kind_is_pattern (type.Where is declarations) well =
      (type_is_pattern is well.0, declarations_are_patterns declarations well.1)
  kind_is_pattern (type.Variable name) well = absurd well
  kind_is_pattern (type.Default name constant) well = absurd well

  types_are_patterns : (trees : Trees) → AreWellMade trees → AreWellMadePatterns trees
  types_are_patterns NoTree well = tt
  types_are_patterns (ATree first rest) well =
      (type_is_pattern first well.0, types_are_patterns rest well.1)

  signs_are_patterns : (signs : Signs) → AreWellMadeSigns signs → AreWellMadePatternSigns signs
  signs_are_patterns NoSign well = tt
  signs_are_patterns (ASign kept is rest) well =
      (type_is_pattern is well.0, signs_are_patterns rest well.1)

  fields_are_patterns : (fields : Fields) → AreWellMadeFields fields
      → AreWellMadePatternFields fields
  fields_are_patterns NoField well = tt
  fields_are_patterns (AField label at optional is rest) well =
      (well.0, type_is_pattern is well.1, fields_are_patterns rest well.2)

  rest_is_pattern : (rest : Rest) → IsWellMadeRest rest → IsWellMadePatternRest rest
  rest_is_pattern Closed well = tt
  rest_is_pattern Open well = tt
  rest_is_pattern (Typed is) well = type_is_pattern is well

  pub declarations_are_patterns : (declarations : Declarations)
      → AreWellMadeDeclarations declarations → AreWellMadePatternDeclarations declarations
  declarations_are_patterns NoDeclaration well = tt
  declarations_are_patterns (ADeclaration name at is rest) well =
      (type_is_pattern is well.0, declarations_are_patterns rest well.1)

  regular_is_pattern : (is : Regular) → IsWellMadeRegular is → IsWellMadePatternRegular is
  regular_is_pattern (regular span kind) well = regular_kind_is_pattern kind well

  regular_kind_is_pattern : (kind : RegularKind) → IsWellMadeRegularKind kind
      → IsWellMadePatternRegularKind kind
  regular_kind_is_pattern type.Nothing well = tt
  regular_kind_is_pattern (type.Item is) well = type_is_pattern is well
  regular_kind_is_pattern (type.Seq all) well = regulars_are_patterns all well
  regular_kind_is_pattern (type.Alt all) well = regulars_are_patterns all well
  regular_kind_is_pattern (type.Repeat is post) well = regular_is_pattern is well
  regular_kind_is_pattern (type.Capture name is) well = absurd well

  regulars_are_patterns : (all : Regulars) → AreWellMadeRegulars all
      → AreWellMadePatternRegulars all
  regulars_are_patterns NoRegular well = tt
  regulars_are_patterns (ARegular first rest) well =
      (regular_is_pattern first well.0, regulars_are_patterns rest well.1)
