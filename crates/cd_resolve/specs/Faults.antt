-- What is wrong with the names of a written type, and where.
use Rattle.std.specs.Prelude.{◌≡◌, ◌≢◌, ℕ, ◌<◌, ◌≤◌, ◌⊎◌, [], ◌∷◌, None, Bool}
use Rattle.cd_syntax.specs.Name.{Name}
use Rattle.cd_syntax.specs.BuiltIn.{IsBuiltin}
use Rattle.cd_syntax.specs.TypeTree.{Tree, tree, Kind, Tuple, Arrows, Union, Meet, Sequence, Record}
use Rattle.cd_syntax.specs.TypeTree.{Xml, Named, Where, Trees, Signs, Fields, AField, Declarations}
use Rattle.cd_syntax.specs.TypeTree.{ADeclaration, Regular, regular, Item, Seq, Alt, Repeat}
use Rattle.cd_syntax.specs.TypeTree.{Capture, Regulars, ARegular}
use Rattle.cd_syntax.specs.TypeTree.{Rest, Typed}
use Rattle.cd_syntax.specs.declared.tokens.Span.{Span}
use Rattle.cd_resolve.specs.declared.fault.NameFault.{NameFault}
use Rattle.cd_resolve.specs.declared.fault.NameFault.TheVariants.{Unknown, Twice, Unguarded}
use Rattle.cd_resolve.specs.declared.fault.NameFault.TheVariants.{VariablesDiffer, VariableTwice}
use Rattle.cd_resolve.specs.declared.fault.NameFault.TheVariants.{VariableRepeats}
use Rattle.cd_resolve.specs.declared.fault.NameFault.TheVariants.{VariableMisplaced, NoMain}
use Rattle.cd_model.specs.Scope.{Scope, declared_as}
use Rattle.cd_model.specs.Guarded.{IsOneOf, IsSigned, LeadsTo}
use Rattle.cd_model.specs.Written.{kind_of}

-- a fault, the name that it is reported of, and its place
pub record Fault : Type 0 where
  pub fault : NameFault
  pub name : Name
  pub at : ℕ

-- a field of a record, and an item of a regular expression
pub data IsField : (label : Name) (at : ℕ) → Tree → Fields → Type 0 where
  first : (label : Name) (at : ℕ) (optional : Bool) (is : Tree) (rest : Fields)
      → IsField label at is (AField label at optional is rest)
  later : (label other : Name) (at there : ℕ) (optional : Bool) (is another : Tree) (rest : Fields)
      → IsField label at is rest
      → IsField label at is (AField other there optional another rest)

mutual
  pub data IsItem : Tree → Regular → Type 0 where
    item : (span : Span) (is : Tree) → IsItem is (regular span (Item is))
    in_seq : (span : Span) (is : Tree) (all : Regulars) → IsItemOfOne is all
        → IsItem is (regular span (Seq all))
    in_alt : (span : Span) (is : Tree) (all : Regulars) → IsItemOfOne is all
        → IsItem is (regular span (Alt all))
    repeated : (span : Span) (is : Tree) (all : Regular) (post : _) → IsItem is all
        → IsItem is (regular span (Repeat all post))
    captured : (span : Span) (is : Tree) (name : Name) (all : Regular) → IsItem is all
        → IsItem is (regular span (Capture name all))

  pub data IsItemOfOne : Tree → Regulars → Type 0 where
    first : (is : Tree) (one : Regular) (rest : Regulars) → IsItem is one
        → IsItemOfOne is (ARegular one rest)
    later : (is : Tree) (one : Regular) (rest : Regulars) → IsItemOfOne is rest
        → IsItemOfOne is (ARegular one rest)

-- a tree that stands directly in another one, and the scope that it stands in
pub data IsPart : Scope → Kind → Scope → Tree → Type 0 where
  in_tuple : (scope : Scope) (is : Tree) (trees : Trees) → IsOneOf is trees
      → IsPart scope (Tuple trees) scope is
  in_arrows : (scope : Scope) (is : Tree) (trees : Trees) → IsOneOf is trees
      → IsPart scope (Arrows trees) scope is
  in_union : (scope : Scope) (is : Tree) (trees : Trees) → IsOneOf is trees
      → IsPart scope (Union trees) scope is
  in_first : (scope : Scope) (is : Tree) (signs : Signs) → IsPart scope (Meet is signs) scope is
  in_signed : (scope : Scope) (first is : Tree) (signs : Signs) → IsSigned is signs
      → IsPart scope (Meet first signs) scope is
  in_sequence : (scope : Scope) (is : Tree) (all : Regular) → IsItem is all
      → IsPart scope (Sequence all) scope is
  in_record : (scope : Scope) (label : Name) (at : ℕ) (is : Tree) (fields : Fields) (rest : Rest)
      → IsField label at is fields
      → IsPart scope (Record fields rest) scope is
  in_rest : (scope : Scope) (fields : Fields) (is : Tree)
      → IsPart scope (Record fields (Typed is)) scope is
  in_tag : (scope : Scope) (tag attributes content : Tree)
      → IsPart scope (Xml tag attributes content) scope tag
  in_attributes : (scope : Scope) (tag attributes content : Tree)
      → IsPart scope (Xml tag attributes content) scope attributes
  in_content : (scope : Scope) (tag attributes content : Tree)
      → IsPart scope (Xml tag attributes content) scope content
  under_where : (scope : Scope) (is : Tree) (declarations : Declarations)
      → IsPart scope (Where is declarations) (declarations ∷ scope) is

-- a label stands at this place, and at an earlier field of the same record
pub data LabelAgain : Name → (at : ℕ) → Fields → Type 0 where
  here : (label : Name) (at there : ℕ) (optional : Bool) (is other : Tree) (rest : Fields)
      → IsField label at is rest
      → LabelAgain label at (AField label there optional other rest)
  later : (label other : Name) (at there : ℕ) (optional : Bool) (is : Tree) (rest : Fields)
      → LabelAgain label at rest
      → LabelAgain label at (AField other there optional is rest)

-- a declaration of a list, and one of a name that the list declares before
pub data IsDeclared : (name : Name) (at : ℕ) → Tree → Declarations → Type 0 where
  first : (name : Name) (at : ℕ) (is : Tree) (rest : Declarations)
      → IsDeclared name at is (ADeclaration name at is rest)
  later : (name other : Name) (at there : ℕ) (is another : Tree) (rest : Declarations)
      → IsDeclared name at is rest
      → IsDeclared name at is (ADeclaration other there another rest)

pub data DeclaredAgain : Name → (at : ℕ) → Declarations → Type 0 where
  here : (name : Name) (at there : ℕ) (is other : Tree) (rest : Declarations)
      → IsDeclared name at is rest
      → DeclaredAgain name at (ADeclaration name there other rest)
  later : (name other : Name) (at there : ℕ) (is : Tree) (rest : Declarations)
      → DeclaredAgain name at rest
      → DeclaredAgain name at (ADeclaration other there is rest)

-- the first declaration of a name in a list
pub data IsFirst : (name : Name) (at : ℕ) → Tree → Declarations → Type 0 where
  here : (name : Name) (at : ℕ) (is : Tree) (rest : Declarations)
      → IsFirst name at is (ADeclaration name at is rest)
  later : (name other : Name) (at there : ℕ) (is another : Tree) (rest : Declarations)
      → name ≢ other → IsFirst name at is rest
      → IsFirst name at is (ADeclaration other there another rest)

mutual
  -- A fault of a tree in this scope. The names of the lists `outer` do not see those of the tree,
  -- so none of these leads back to itself through them
  pub data IsFault : (outer : Scope) → Scope → Tree → Fault → Type 0 where
    unknown : (outer scope : Scope) (span : Span) (name : Name) → declared_as scope name ≡ None
        → IsFault outer scope (tree span (Named name))
        (record { fault = Unknown; name = name; at = span.from })
    label_twice : (outer scope : Scope) (span : Span) (fields : Fields) (rest : Rest) (label : Name)
        (at : ℕ) → LabelAgain label at fields
        → IsFault outer scope (tree span (Record fields rest))
        (record { fault = Twice; name = label; at = at })
    in_part : (outer scope inner : Scope) (span : Span) (kind : Kind) (part : Tree) (fault : Fault)
        → IsPart scope kind inner part
        → IsFault outer inner part fault → IsFault outer scope (tree span kind) fault
    in_where : (outer scope : Scope) (span : Span) (is : Tree) (declarations : Declarations)
        (fault : Fault)
        → IsFaultOfList outer (declarations ∷ scope) declarations fault
        → IsFault outer scope (tree span (Where is declarations)) fault

  -- a fault of a list of declarations that stands first in this scope. Of a name that is declared
  -- twice, uses mean the first
  pub data IsFaultOfList : (outer : Scope) → Scope → Declarations → Fault → Type 0 where
    twice : (outer scope : Scope) (declarations : Declarations) (name : Name) (at : ℕ)
        → DeclaredAgain name at declarations
        → IsFaultOfList outer scope declarations (record { fault = Twice; name = name; at = at })
    built_in : (outer scope : Scope) (declarations : Declarations) (name : Name) (at : ℕ)
        (is : Tree) (type : _)
        → IsDeclared name at is declarations → IsBuiltin name type
        → IsFaultOfList outer scope declarations (record { fault = Twice; name = name; at = at })
    unguarded : (outer scope : Scope) (declarations : Declarations) (name : Name) (at : ℕ)
        (is : Tree) → IsFirst name at is declarations
        → LeadsTo outer scope (kind_of is) (record { name = name; scope = scope; tree = is })
        → IsFaultOfList outer scope declarations
        (record { fault = Unguarded; name = name; at = at })
    in_declared : (outer scope : Scope) (declarations : Declarations) (name : Name) (at : ℕ)
        (is : Tree) (fault : Fault)
        → IsDeclared name at is declarations → IsFault outer scope is fault
        → IsFaultOfList outer scope declarations fault

-- a fault of a type that sees these declarations, and of declarations that see one another alone
abbrev pub IsFaultOfType : Declarations → Tree → Fault → Type 0
IsFaultOfType declared is fault = IsFault (declared ∷ []) (declared ∷ []) is fault

abbrev pub IsFaultOfDeclarations : Declarations → Fault → Type 0
IsFaultOfDeclarations declared fault = IsFaultOfList [] (declared ∷ []) declared fault

-- of two faults the one with the lesser place is reported, and at one place that of the lesser rank
abbrev pub rank : NameFault → ℕ
rank Unknown = 0
rank Twice = 1
rank Unguarded = 2
rank VariablesDiffer = 3
rank VariableTwice = 4
rank VariableRepeats = 5
rank VariableMisplaced = 6
rank NoMain = 7

abbrev pub IsBefore : Fault → Fault → Type 0
IsBefore one other = (one.at < other.at)
    ⊎ ((one.at ≡ other.at) × (rank one.fault ≤ rank other.fault))

-- it is one of these faults, and none of them comes before it
pub record IsReported (IsSuch : Fault → Type 0) (fault : Fault) : Type 0 where
  pub is : IsSuch fault
  pub first : (other : Fault) → IsSuch other → IsBefore fault other
