-- Expressions and programs, as plain data.
use Rattle.std.specs.Prelude.{ℕ, List, [], ◌∷◌, Option}
use Rattle.cd_syntax.specs.Name.{Name}
use Rattle.cd_syntax.specs.declared.tokens.Span.{Span}
use Rattle.cd_syntax.specs.declared.constant.Constant.{Constant as AConstant}
use Rattle.cd_syntax.specs.TypeTree.{Tree, Declarations}
use Rattle.cd_program.specs.declared.operator.Op.{Op}
use Rattle.cd_program.specs.declared.operator.BuiltIn.{BuiltIn}
use Rattle.cd_program.specs.declared.operator.Form.{Form}
use Rattle.cd_program.specs.declared.operator.Form.TheVariants as form

-- an arrow of a function, as it is written
pub record Signature : Type 0 where
  pub takes : Tree
  pub gives : Tree

mutual
  -- what is written, and where: from the first character of its first token to the end of its last
  -- one
  pub data Expr : Type 0 where
    expr : (span : Span) → Kind → Expr

  pub data Kind : Type 0 where
    Constant : AConstant → Kind
    Variable : Name → Kind
    Tuple : Exprs → Kind
    Sequence : Items → Kind
    Record : Fields → Kind
    Xml : (tag attributes content : Expr) → Kind
    Function : FunctionTree → Kind
    -- a function, and its arguments one after the other
    Apply : Exprs → Kind
    Match : Expr → Branches → Kind
    Try : Expr → Branches → Kind
    Map : Expr → Branches → Kind
    Transform : Expr → Branches → Kind
    Let : (pattern : Tree) → (value rest : Expr) → Kind
    If : (condition then_one else_one : Expr) → Kind
    -- operators of one level: the tails stand after the first operand, and group to the left
    Chain : Expr → Tails → Kind
    Call : BuiltIn → Expr → Kind

  pub data Exprs : Type 0 where
    NoExpr : Exprs
    AnExpr : Expr → Exprs → Exprs

  pub data Items : Type 0 where
    NoItem : Items
    AnItem : Item → Items → Items

  pub data Item : Type 0 where
    One : Expr → Item
    Splice : Expr → Item
    Run : (characters : List ℕ) → Item

  pub data Fields : Type 0 where
    NoField : Fields
    AField : (label : Name) (at : ℕ) → Expr → Fields → Fields

  pub data Tails : Type 0 where
    NoTail : Tails
    ATail : Tail → Tails → Tails

  pub data Tail : Type 0 where
    Operand : Op → Expr → Tail
    Without : Name → Tail
    Select : Name → Tail

  pub data Branches : Type 0 where
    NoBranch : Branches
    ABranch : (pattern : Tree) → Expr → Branches → Branches

  -- the place of the name is that of the word `fun` where there is no name
  pub data FunctionTree : Type 0 where
    function : (at : ℕ) (name : Option Name) (name_at : ℕ) (interface : List Signature) → Branches
        → FunctionTree

-- one field or branch
pub record Field : Type 0 where
  pub label : Name
  pub at : ℕ
  pub expr : Expr

pub record Branch : Type 0 where
  pub pattern : Tree
  pub body : Expr

-- the lists of these
abbrev pub exprs_of : List Expr → Exprs
exprs_of [] = NoExpr
exprs_of (first ∷ rest) = AnExpr first (exprs_of rest)

abbrev pub items_of : List Item → Items
items_of [] = NoItem
items_of (first ∷ rest) = AnItem first (items_of rest)

abbrev pub fields_of : List Field → Fields
fields_of [] = NoField
fields_of (field ∷ rest) = AField field.label field.at field.expr (fields_of rest)

abbrev pub tails_of : List Tail → Tails
tails_of [] = NoTail
tails_of (first ∷ rest) = ATail first (tails_of rest)

abbrev pub branches_of : List Branch → Branches
branches_of [] = NoBranch
branches_of (branch ∷ rest) = ABranch branch.pattern branch.body (branches_of rest)

-- a program: its types, its functions, and where its text ends
pub record Program : Type 0 where
  pub types : Declarations
  pub functions : List FunctionTree
  pub end : ℕ

-- what a form with branches is
abbrev pub of_form : Form → Expr → Branches → Kind
of_form form.Match value branches = Match value branches
of_form form.Try value branches = Try value branches
of_form form.Map value branches = Map value branches
of_form form.Transform value branches = Transform value branches
