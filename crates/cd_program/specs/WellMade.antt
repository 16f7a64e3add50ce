-- Well made expressions and programs. Atoms, labels and variables are words. A tuple and
-- an application of expressions have two members at least, a chain has an operator, and a function
-- has an arrow and a branch.
use Rattle.std.specs.Prelude.{◌≢◌, List, [], ◌∷◌, Option, Some, None}
use Rattle.cd_syntax.specs.Name.{Name, IsLabel}
use Rattle.cd_syntax.specs.WellMade.{IsWellMade, AreWellMadeDeclarations}
use Rattle.cd_syntax.specs.WellMadePattern.{IsWellMadePattern, IsWellMadeConstant}
use Rattle.cd_program.specs.Expr.{Expr, expr, Kind, Constant, Variable, Tuple, Sequence, Record}
use Rattle.cd_program.specs.Expr.{Xml, Function, Apply, Match, Try, Map, Transform, Let, If, Chain}
use Rattle.cd_program.specs.Expr.{Call, Exprs, NoExpr, AnExpr, Items, NoItem, AnItem, Item, One}
use Rattle.cd_program.specs.Expr.{Splice, Run, Fields, NoField, AField, Tails, NoTail, ATail, Tail}
use Rattle.cd_program.specs.Expr.{Operand, Without, Select, Branches, NoBranch, ABranch, FunctionTree}
use Rattle.cd_program.specs.Expr.{function, Signature, Program}

-- arrows of a function are between types
abbrev pub AreWellMadeSignatures : List Signature → Type 0
AreWellMadeSignatures [] = Unit {0}
AreWellMadeSignatures (first ∷ rest) = IsWellMade first.takes × IsWellMade first.gives
    × AreWellMadeSignatures rest

abbrev pub IsWellMadeName : Option Name → Type 0
IsWellMadeName None = Unit {0}
IsWellMadeName (Some name) = IsLabel name

abbrev pub HaveTwo : Exprs → Type 0
HaveTwo (AnExpr first (AnExpr second rest)) = Unit {0}
HaveTwo exprs = ⊥

abbrev mutual
  pub IsWellMadeExpr : Expr → Type 0
  IsWellMadeExpr (expr span kind) = IsWellMadeExprKind kind

  pub IsWellMadeExprKind : Kind → Type 0
  IsWellMadeExprKind (Constant is) = IsWellMadeConstant is
  IsWellMadeExprKind (Variable name) = IsLabel name
  IsWellMadeExprKind (Tuple exprs) = HaveTwo exprs × AreWellMadeExprs exprs
  IsWellMadeExprKind (Sequence items) = AreWellMadeItems items
  IsWellMadeExprKind (Record fields) = AreWellMadeExprFields fields
  IsWellMadeExprKind (Xml tag attributes content) = IsWellMadeExpr tag
      × IsWellMadeExpr attributes × IsWellMadeExpr content
  IsWellMadeExprKind (Function is) = IsWellMadeFunction is
  IsWellMadeExprKind (Apply exprs) = HaveTwo exprs × AreWellMadeExprs exprs
  IsWellMadeExprKind (Match value branches) = IsWellMadeExpr value × (branches ≢ NoBranch)
      × AreWellMadeBranches branches
  IsWellMadeExprKind (Try value branches) = IsWellMadeExpr value × (branches ≢ NoBranch)
      × AreWellMadeBranches branches
  IsWellMadeExprKind (Map value branches) = IsWellMadeExpr value × (branches ≢ NoBranch)
      × AreWellMadeBranches branches
  IsWellMadeExprKind (Transform value branches) = IsWellMadeExpr value × (branches ≢ NoBranch)
      × AreWellMadeBranches branches
  IsWellMadeExprKind (Let pattern value rest) = IsWellMadePattern pattern
      × IsWellMadeExpr value × IsWellMadeExpr rest
  IsWellMadeExprKind (If condition then_one else_one) = IsWellMadeExpr condition
      × IsWellMadeExpr then_one × IsWellMadeExpr else_one
  IsWellMadeExprKind (Chain first tails) = IsWellMadeExpr first × (tails ≢ NoTail)
      × AreWellMadeTails tails
  IsWellMadeExprKind (Call word is) = IsWellMadeExpr is

  pub AreWellMadeExprs : Exprs → Type 0
  AreWellMadeExprs NoExpr = Unit {0}
  AreWellMadeExprs (AnExpr first rest) = IsWellMadeExpr first × AreWellMadeExprs rest

  pub AreWellMadeItems : Items → Type 0
  AreWellMadeItems NoItem = Unit {0}
  AreWellMadeItems (AnItem first rest) = IsWellMadeItem first × AreWellMadeItems rest

  pub IsWellMadeItem : Item → Type 0
  IsWellMadeItem (One is) = IsWellMadeExpr is
  IsWellMadeItem (Splice is) = IsWellMadeExpr is
  IsWellMadeItem (Run characters) = Unit {0}

  pub AreWellMadeExprFields : Fields → Type 0
  AreWellMadeExprFields NoField = Unit {0}
  AreWellMadeExprFields (AField label at is rest) = IsLabel label × IsWellMadeExpr is
      × AreWellMadeExprFields rest

  pub AreWellMadeTails : Tails → Type 0
  AreWellMadeTails NoTail = Unit {0}
  AreWellMadeTails (ATail first rest) = IsWellMadeTail first × AreWellMadeTails rest

  pub IsWellMadeTail : Tail → Type 0
  IsWellMadeTail (Operand op is) = IsWellMadeExpr is
  IsWellMadeTail (Without label) = IsLabel label
  IsWellMadeTail (Select label) = IsLabel label

  pub AreWellMadeBranches : Branches → Type 0
  AreWellMadeBranches NoBranch = Unit {0}
  AreWellMadeBranches (ABranch pattern body rest) = IsWellMadePattern pattern
      × IsWellMadeExpr body × AreWellMadeBranches rest

  pub IsWellMadeFunction : FunctionTree → Type 0
  IsWellMadeFunction (function at name name_at interface branches) = IsWellMadeName name
      × (interface ≢ []) × AreWellMadeSignatures interface
      × (branches ≢ NoBranch) × AreWellMadeBranches branches

-- a function that is declared has a name
abbrev pub HasName : FunctionTree → Type 0
HasName (function at None name_at interface branches) = ⊥
HasName (function at (Some name) name_at interface branches) = Unit {0}

abbrev pub AreWellMadeFunctions : List FunctionTree → Type 0
AreWellMadeFunctions [] = Unit {0}
AreWellMadeFunctions (first ∷ rest) = HasName first × IsWellMadeFunction first
    × AreWellMadeFunctions rest

abbrev pub IsWellMadeProgram : Program → Type 0
IsWellMadeProgram program = AreWellMadeDeclarations program.types
    × AreWellMadeFunctions program.functions
