-- Trees that are well made patterns: they are as types are, and variables stand in them. Variables
-- are words.
use Rattle.cd_syntax.specs.declared.constant.Constant.{Constant}
use Rattle.cd_syntax.specs.declared.constant.Constant.TheVariants as constant
use Rattle.cd_syntax.specs.Name.{IsLabel}
use Rattle.cd_syntax.specs.TypeTree.{Tree, tree, Kind, Atom, Tuple, Arrows, Union, Meet, Sequence}
use Rattle.cd_syntax.specs.TypeTree.{Record, Xml, Where, Variable, Default, Trees, NoTree, ATree}
use Rattle.cd_syntax.specs.TypeTree.{Signs, NoSign, ASign, Fields, NoField, AField, Declarations}
use Rattle.cd_syntax.specs.TypeTree.{NoDeclaration, ADeclaration, Regular, regular, RegularKind}
use Rattle.cd_syntax.specs.TypeTree.{Nothing, Item, Seq, Alt, Repeat, Capture, Regulars, NoRegular}
use Rattle.cd_syntax.specs.TypeTree.{ARegular, Rest, Closed, Open, Typed}
use Rattle.cd_syntax.specs.WellMade.{HaveTwoTrees}

abbrev pub IsWellMadeConstant : Constant → Type 0
IsWellMadeConstant (constant.Atom name) = IsLabel name
IsWellMadeConstant other = Unit {0}

abbrev mutual
  pub IsWellMadePattern : Tree → Type 0
  IsWellMadePattern (tree span kind) = IsWellMadePatternKind kind

  pub IsWellMadePatternKind : Kind → Type 0
  IsWellMadePatternKind (Atom name) = IsLabel name
  IsWellMadePatternKind (Tuple all) = HaveTwoTrees all × AreWellMadePatterns all
  IsWellMadePatternKind (Arrows all) = HaveTwoTrees all × AreWellMadePatterns all
  IsWellMadePatternKind (Union all) = AreWellMadePatterns all
  IsWellMadePatternKind (Meet first signs) = IsWellMadePattern first
      × AreWellMadePatternSigns signs
  IsWellMadePatternKind (Sequence is) = IsWellMadePatternRegular is
  IsWellMadePatternKind (Record fields rest) = AreWellMadePatternFields fields × IsWellMadePatternRest rest
  IsWellMadePatternKind (Xml tag attributes content) = IsWellMadePattern tag
      × IsWellMadePattern attributes × IsWellMadePattern content
  IsWellMadePatternKind (Where is declarations) = IsWellMadePattern is
      × AreWellMadePatternDeclarations declarations
  IsWellMadePatternKind (Variable name) = IsLabel name
  IsWellMadePatternKind (Default name constant) = IsLabel name × IsWellMadeConstant constant
  IsWellMadePatternKind kind = Unit {0}

  pub AreWellMadePatterns : Trees → Type 0
  AreWellMadePatterns NoTree = Unit {0}
  AreWellMadePatterns (ATree first rest) = IsWellMadePattern first
      × AreWellMadePatterns rest

  pub AreWellMadePatternSigns : Signs → Type 0
  AreWellMadePatternSigns NoSign = Unit {0}
  AreWellMadePatternSigns (ASign kept is rest) = IsWellMadePattern is
      × AreWellMadePatternSigns rest

  pub AreWellMadePatternFields : Fields → Type 0
  AreWellMadePatternFields NoField = Unit {0}
  AreWellMadePatternFields (AField label at optional is rest) = IsLabel label
      × IsWellMadePattern is × AreWellMadePatternFields rest

  pub IsWellMadePatternRest : Rest → Type 0
  IsWellMadePatternRest Closed = Unit {0}
  IsWellMadePatternRest Open = Unit {0}
  IsWellMadePatternRest (Typed is) = IsWellMadePattern is

  pub AreWellMadePatternDeclarations : Declarations → Type 0
  AreWellMadePatternDeclarations NoDeclaration = Unit {0}
  AreWellMadePatternDeclarations (ADeclaration name at is rest) = IsWellMadePattern is
      × AreWellMadePatternDeclarations rest

  pub IsWellMadePatternRegular : Regular → Type 0
  IsWellMadePatternRegular (regular span kind) = IsWellMadePatternRegularKind kind

  pub IsWellMadePatternRegularKind : RegularKind → Type 0
  IsWellMadePatternRegularKind Nothing = Unit {0}
  IsWellMadePatternRegularKind (Item is) = IsWellMadePattern is
  IsWellMadePatternRegularKind (Seq all) = AreWellMadePatternRegulars all
  IsWellMadePatternRegularKind (Alt all) = AreWellMadePatternRegulars all
  IsWellMadePatternRegularKind (Repeat is post) = IsWellMadePatternRegular is
  IsWellMadePatternRegularKind (Capture name is) = IsLabel name
      × IsWellMadePatternRegular is

  pub AreWellMadePatternRegulars : Regulars → Type 0
  AreWellMadePatternRegulars NoRegular = Unit {0}
  AreWellMadePatternRegulars (ARegular first rest) = IsWellMadePatternRegular first
      × AreWellMadePatternRegulars rest
