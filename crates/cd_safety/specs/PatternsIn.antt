-- A fact of each pattern that stands in an expression.
use Rattle.cd_syntax.specs.TypeTree.{Tree}
use Rattle.cd_program.specs.Expr.{Expr, expr, Kind, Tuple, Sequence, Record, Xml, Function, Apply}
use Rattle.cd_program.specs.Expr.{Match, Try, Map, Transform, Let, If, Chain, Call, Exprs, NoExpr}
use Rattle.cd_program.specs.Expr.{AnExpr, Items, NoItem, AnItem, One, Splice, Run, Fields, NoField}
use Rattle.cd_program.specs.Expr.{AField, Tails, NoTail, ATail, Operand, Without, Select, Branches}
use Rattle.cd_program.specs.Expr.{NoBranch, ABranch, FunctionTree, function}

module _ (Fact : Tree → Type 0) where
  abbrev mutual
    pub EachPattern : Expr → Type 0
    EachPattern (expr span kind) = EachOfKind kind

    pub EachOfKind : Kind → Type 0
    EachOfKind (Tuple exprs) = EachOfExprs exprs
    EachOfKind (Sequence items) = EachOfItems items
    EachOfKind (Record fields) = EachOfFields fields
    EachOfKind (Xml tag attributes content) =
        EachPattern tag × EachPattern attributes × EachPattern content
    EachOfKind (Function f) = EachOfFunction f
    EachOfKind (Apply exprs) = EachOfExprs exprs
    EachOfKind (Match e branches) = EachPattern e × EachOfBranches branches
    EachOfKind (Try body branches) = EachPattern body × EachOfBranches branches
    EachOfKind (Map e branches) = EachPattern e × EachOfBranches branches
    EachOfKind (Transform e branches) = EachPattern e × EachOfBranches branches
    EachOfKind (Let pattern e rest) = Fact pattern × EachPattern e × EachPattern rest
    EachOfKind (If condition then_one else_one) =
        EachPattern condition × EachPattern then_one × EachPattern else_one
    EachOfKind (Chain first tails) = EachPattern first × EachOfTails tails
    EachOfKind (Call word e) = EachPattern e
    EachOfKind kind = Unit {0}

    pub EachOfExprs : Exprs → Type 0
    EachOfExprs NoExpr = Unit {0}
    EachOfExprs (AnExpr e rest) = EachPattern e × EachOfExprs rest

    pub EachOfItems : Items → Type 0
    EachOfItems NoItem = Unit {0}
    EachOfItems (AnItem (One e) rest) = EachPattern e × EachOfItems rest
    EachOfItems (AnItem (Splice e) rest) = EachPattern e × EachOfItems rest
    EachOfItems (AnItem (Run characters) rest) = EachOfItems rest

    pub EachOfFields : Fields → Type 0
    EachOfFields NoField = Unit {0}
    EachOfFields (AField label at e rest) = EachPattern e × EachOfFields rest

    pub EachOfTails : Tails → Type 0
    EachOfTails NoTail = Unit {0}
    EachOfTails (ATail (Operand op e) rest) = EachPattern e × EachOfTails rest
    EachOfTails (ATail (Without label) rest) = EachOfTails rest
    EachOfTails (ATail (Select label) rest) = EachOfTails rest

    pub EachOfBranches : Branches → Type 0
    EachOfBranches NoBranch = Unit {0}
    EachOfBranches (ABranch pattern body rest) =
        Fact pattern × EachPattern body × EachOfBranches rest

    pub EachOfFunction : FunctionTree → Type 0
    EachOfFunction (function at name name_at interface branches) = EachOfBranches branches
