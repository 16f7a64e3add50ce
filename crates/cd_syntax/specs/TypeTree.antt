-- The trees of types and patterns, as plain data.
use Rattle.std.specs.Prelude.{ℕ, ℤ, Bool, List, [], ◌∷◌, Option}
use Rattle.cd_syntax.specs.Name.{Name}
use Rattle.cd_syntax.specs.declared.tokens.Span.{Span}
use Rattle.cd_syntax.specs.declared.builtin.BuiltinName.{BuiltinName}
use Rattle.cd_syntax.specs.declared.constant.Constant.{Constant}
use Rattle.cd_syntax.specs.declared.type_tree.Post.{Post}

mutual
  -- what is written, and where: from the first character of its first token to the end of its last
  -- one
  pub data Tree : Type 0 where
    tree : (span : Span) → Kind → Tree

  pub data Kind : Type 0 where
    Builtin : BuiltinName → Kind
    Ints : (low high : Option ℤ) → Kind
    Chars : (low high : ℕ) → Kind
    Atom : Name → Kind
    Text : (characters : List ℕ) → Kind
    Tuple : Trees → Kind
    Arrows : Trees → Kind
    Union : Trees → Kind
    Meet : Tree → Signs → Kind
    Sequence : Regular → Kind
    Record : Fields → Rest → Kind
    Xml : (tag attributes content : Tree) → Kind
    Named : Name → Kind
    Where : Tree → Declarations → Kind
    Variable : Name → Kind
    Default : Name → Constant → Kind

  pub data Trees : Type 0 where
    NoTree : Trees
    ATree : Tree → Trees → Trees

  -- trees after a sign: true is `&`, false is `\`
  pub data Signs : Type 0 where
    NoSign : Signs
    ASign : (kept : Bool) → Tree → Signs → Signs

  pub data Fields : Type 0 where
    NoField : Fields
    AField : (label : Name) (at : ℕ) (optional : Bool) → Tree → Fields → Fields

  -- what stands after the fields: nothing, `..`, or `_=?` and a tree
  pub data Rest : Type 0 where
    Closed : Rest
    Open : Rest
    Typed : Tree → Rest

  pub data Declarations : Type 0 where
    NoDeclaration : Declarations
    ADeclaration : (name : Name) (at : ℕ) → Tree → Declarations → Declarations

  pub data Regular : Type 0 where
    regular : (span : Span) → RegularKind → Regular

  pub data RegularKind : Type 0 where
    Nothing : RegularKind
    Item : Tree → RegularKind
    Seq : Regulars → RegularKind
    Alt : Regulars → RegularKind
    Repeat : Regular → Post → RegularKind
    Capture : Name → Regular → RegularKind

  pub data Regulars : Type 0 where
    NoRegular : Regulars
    ARegular : Regular → Regulars → Regulars

-- one sign, field or declaration
pub record Signed : Type 0 where
  pub kept : Bool
  pub tree : Tree

pub record Field : Type 0 where
  pub label : Name
  pub at : ℕ
  pub optional : Bool
  pub tree : Tree

pub record Declaration : Type 0 where
  pub name : Name
  pub at : ℕ
  pub tree : Tree

-- the lists of these
abbrev pub trees_of : List Tree → Trees
trees_of [] = NoTree
trees_of (first ∷ rest) = ATree first (trees_of rest)

abbrev pub signs_of : List Signed → Signs
signs_of [] = NoSign
signs_of (sign ∷ rest) = ASign sign.kept sign.tree (signs_of rest)

abbrev pub fields_of : List Field → Fields
fields_of [] = NoField
fields_of (field ∷ rest) = AField field.label field.at field.optional field.tree (fields_of rest)

abbrev pub declarations_of : List Declaration → Declarations
declarations_of [] = NoDeclaration
declarations_of (declaration ∷ rest) =
    ADeclaration declaration.name declaration.at declaration.tree (declarations_of rest)

abbrev pub regulars_of : List Regular → Regulars
regulars_of [] = NoRegular
regulars_of (expression ∷ rest) = ARegular expression (regulars_of rest)
