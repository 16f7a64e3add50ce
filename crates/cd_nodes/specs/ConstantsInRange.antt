-- Patterns whose constants are in range: integers fit 128 bits, and characters are of Unicode.
use Rattle.cd_syntax.specs.declared.constant.Constant.{Constant}
use Rattle.cd_syntax.specs.declared.constant.Constant.TheVariants as constant
use Rattle.cd_syntax.specs.TypeTree.{Tree, tree, Kind, Tuple, Arrows, Union, Meet, Sequence, Record}
use Rattle.cd_syntax.specs.TypeTree.{Xml, Where, Default, Trees, NoTree, ATree, Signs, NoSign}
use Rattle.cd_syntax.specs.TypeTree.{ASign, Fields, NoField, AField, Declarations, NoDeclaration}
use Rattle.cd_syntax.specs.TypeTree.{ADeclaration, Regular, regular, RegularKind, Item, Seq, Alt}
use Rattle.cd_syntax.specs.TypeTree.{Repeat, Capture, Regulars, NoRegular, ARegular, Rest, Typed}
use Rattle.cd_model.specs.Thing.{IsElement}
use Rattle.cd_matching.specs.Sequences.{thing_of}

-- a constant is an element, if it is no atom
abbrev pub IsInRange : Constant → Type 0
IsInRange (constant.Atom name) = Unit {0}
IsInRange other = IsElement (thing_of other)

-- so is the default of each variable
abbrev mutual
  pub ConstantsInRange : Tree → Type 0
  ConstantsInRange (tree span kind) = KindInRange kind

  pub KindInRange : Kind → Type 0
  KindInRange (Default name constant) = IsInRange constant
  KindInRange (Tuple all) = AllInRange all
  KindInRange (Arrows all) = AllInRange all
  KindInRange (Union all) = AllInRange all
  KindInRange (Meet first signs) = ConstantsInRange first × SignsInRange signs
  KindInRange (Sequence is) = RegularInRange is
  KindInRange (Record fields rest) = FieldsInRange fields × RestInRange rest
  KindInRange (Xml tag attributes content) = ConstantsInRange tag × ConstantsInRange attributes
      × ConstantsInRange content
  KindInRange (Where is declarations) = ConstantsInRange is × DeclaredInRange declarations
  KindInRange kind = Unit {0}

  pub AllInRange : Trees → Type 0
  AllInRange NoTree = Unit {0}
  AllInRange (ATree first rest) = ConstantsInRange first × AllInRange rest

  pub SignsInRange : Signs → Type 0
  SignsInRange NoSign = Unit {0}
  SignsInRange (ASign kept is rest) = ConstantsInRange is × SignsInRange rest

  pub FieldsInRange : Fields → Type 0
  FieldsInRange NoField = Unit {0}
  FieldsInRange (AField label at optional is rest) = ConstantsInRange is × FieldsInRange rest

  pub RestInRange : Rest → Type 0
  RestInRange (Typed is) = ConstantsInRange is
  RestInRange rest = Unit {0}

  pub DeclaredInRange : Declarations → Type 0
  DeclaredInRange NoDeclaration = Unit {0}
  DeclaredInRange (ADeclaration name at is rest) = ConstantsInRange is × DeclaredInRange rest

  pub RegularInRange : Regular → Type 0
  RegularInRange (regular span kind) = RegularKindInRange kind

  pub RegularKindInRange : RegularKind → Type 0
  RegularKindInRange (Item is) = ConstantsInRange is
  RegularKindInRange (Seq all) = RegularsInRange all
  RegularKindInRange (Alt all) = RegularsInRange all
  RegularKindInRange (Repeat is post) = RegularInRange is
  RegularKindInRange (Capture name is) = RegularInRange is
  RegularKindInRange kind = Unit {0}

  pub RegularsInRange : Regulars → Type 0
  RegularsInRange NoRegular = Unit {0}
  RegularsInRange (ARegular first rest) = RegularInRange first × RegularsInRange rest
