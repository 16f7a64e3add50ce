-- Trees that are well made types: their atoms and labels are words, a tuple and a chain of arrows
-- have two parts at least, and nothing in them is a form of patterns alone.
use Rattle.cd_syntax.specs.Name.{IsLabel}
use Rattle.cd_syntax.specs.TypeTree.{Tree, tree, Kind, Atom, Tuple, Arrows, Union, Meet, Sequence}
use Rattle.cd_syntax.specs.TypeTree.{Record, Xml, Where, Variable, Default, Trees, NoTree, ATree}
use Rattle.cd_syntax.specs.TypeTree.{Signs, NoSign, ASign, Fields, NoField, AField, Declarations}
use Rattle.cd_syntax.specs.TypeTree.{NoDeclaration, ADeclaration, Regular, regular, RegularKind}
use Rattle.cd_syntax.specs.TypeTree.{Nothing, Item, Seq, Alt, Repeat, Capture, Regulars, NoRegular}
use Rattle.cd_syntax.specs.TypeTree.{ARegular, Rest, Closed, Open, Typed}

abbrev pub HaveTwoTrees : Trees → Type 0
HaveTwoTrees (ATree first (ATree second rest)) = Unit {0}
HaveTwoTrees trees = ⊥

abbrev mutual
  pub IsWellMade : Tree → Type 0
  IsWellMade (tree span kind) = IsWellMadeKind kind

  pub IsWellMadeKind : Kind → Type 0
  IsWellMadeKind (Atom name) = IsLabel name
  IsWellMadeKind (Tuple trees) = HaveTwoTrees trees × AreWellMade trees
  IsWellMadeKind (Arrows trees) = HaveTwoTrees trees × AreWellMade trees
  IsWellMadeKind (Union trees) = AreWellMade trees
  IsWellMadeKind (Meet first signs) = IsWellMade first × AreWellMadeSigns signs
  IsWellMadeKind (Sequence is) = IsWellMadeRegular is
  IsWellMadeKind (Record fields rest) = AreWellMadeFields fields × IsWellMadeRest rest
  IsWellMadeKind (Xml tag attributes content) = IsWellMade tag × IsWellMade attributes
      × IsWellMade content
  IsWellMadeKind (Where is declarations) = IsWellMade is × AreWellMadeDeclarations declarations
  IsWellMadeKind (Variable name) = ⊥
  IsWellMadeKind (Default name constant) = ⊥
  IsWellMadeKind kind = Unit {0}

  pub AreWellMade : Trees → Type 0
  AreWellMade NoTree = Unit {0}
  AreWellMade (ATree first rest) = IsWellMade first × AreWellMade rest

  pub AreWellMadeSigns : Signs → Type 0
  AreWellMadeSigns NoSign = Unit {0}
  AreWellMadeSigns (ASign kept is rest) = IsWellMade is × AreWellMadeSigns rest

  pub AreWellMadeFields : Fields → Type 0
  AreWellMadeFields NoField = Unit {0}
  AreWellMadeFields (AField label at optional is rest) = IsLabel label × IsWellMade is
      × AreWellMadeFields rest

  pub IsWellMadeRest : Rest → Type 0
  IsWellMadeRest Closed = Unit {0}
  IsWellMadeRest Open = Unit {0}
  IsWellMadeRest (Typed is) = IsWellMade is

  pub AreWellMadeDeclarations : Declarations → Type 0
  AreWellMadeDeclarations NoDeclaration = Unit {0}
  AreWellMadeDeclarations (ADeclaration name at is rest) = IsWellMade is
      × AreWellMadeDeclarations rest

  pub IsWellMadeRegular : Regular → Type 0
  IsWellMadeRegular (regular span kind) = IsWellMadeRegularKind kind

  pub IsWellMadeRegularKind : RegularKind → Type 0
  IsWellMadeRegularKind Nothing = Unit {0}
  IsWellMadeRegularKind (Item is) = IsWellMade is
  IsWellMadeRegularKind (Seq all) = AreWellMadeRegulars all
  IsWellMadeRegularKind (Alt all) = AreWellMadeRegulars all
  IsWellMadeRegularKind (Repeat is post) = IsWellMadeRegular is
  IsWellMadeRegularKind (Capture name is) = ⊥

  pub AreWellMadeRegulars : Regulars → Type 0
  AreWellMadeRegulars NoRegular = Unit {0}
  AreWellMadeRegulars (ARegular first rest) = IsWellMadeRegular first × AreWellMadeRegulars rest
