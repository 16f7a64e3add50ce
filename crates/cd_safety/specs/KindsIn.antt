-- A fact of each expression that stands in an expression, itself too, whatever its place.
use Rattle.cd_program.specs.Expr.{Expr, expr, Kind, Tuple, Sequence, Record, Xml, Function, Apply}
use Rattle.cd_program.specs.Expr.{Match, Try, Map, Transform, Let, If, Chain, Call, Exprs, NoExpr}
use Rattle.cd_program.specs.Expr.{AnExpr, Items, NoItem, AnItem, One, Splice, Run, Fields, NoField}
use Rattle.cd_program.specs.Expr.{AField, Tails, NoTail, ATail, Operand, Without, Select, Branches}
use Rattle.cd_program.specs.Expr.{NoBranch, ABranch, FunctionTree, function}

module _ (Fact : Kind → Type 0) where
  abbrev mutual
    pub EachKind : Expr → Type 0
    EachKind (expr span kind) = Fact kind × KindsWithin kind

    pub KindsWithin : Kind → Type 0
    KindsWithin (Tuple exprs) = KindsOfExprs exprs
    KindsWithin (Sequence items) = KindsOfItems items
    KindsWithin (Record fields) = KindsOfFields fields
    KindsWithin (Xml tag attributes content) =
        EachKind tag × EachKind attributes × EachKind content
    KindsWithin (Function f) = KindsOfFunction f
    KindsWithin (Apply exprs) = KindsOfExprs exprs
    KindsWithin (Match e branches) = EachKind e × KindsOfBranches branches
    KindsWithin (Try body branches) = EachKind body × KindsOfBranches branches
    KindsWithin (Map e branches) = EachKind e × KindsOfBranches branches
    KindsWithin (Transform e branches) = EachKind e × KindsOfBranches branches
    KindsWithin (Let pattern e rest) = EachKind e × EachKind rest
    KindsWithin (If condition then_one else_one) =
        EachKind condition × EachKind then_one × EachKind else_one
    KindsWithin (Chain first tails) = EachKind first × KindsOfTails tails
    KindsWithin (Call word e) = EachKind e
    KindsWithin kind = Unit {0}

    pub KindsOfExprs : Exprs → Type 0
    KindsOfExprs NoExpr = Unit {0}
    KindsOfExprs (AnExpr e rest) = EachKind e × KindsOfExprs rest

    pub KindsOfItems : Items → Type 0
    KindsOfItems NoItem = Unit {0}
    KindsOfItems (AnItem (One e) rest) = EachKind e × KindsOfItems rest
    KindsOfItems (AnItem (Splice e) rest) = EachKind e × KindsOfItems rest
    KindsOfItems (AnItem (Run characters) rest) = KindsOfItems rest

    pub KindsOfFields : Fields → Type 0
    KindsOfFields NoField = Unit {0}
    KindsOfFields (AField label at e rest) = EachKind e × KindsOfFields rest

    pub KindsOfTails : Tails → Type 0
    KindsOfTails NoTail = Unit {0}
    KindsOfTails (ATail (Operand op e) rest) = EachKind e × KindsOfTails rest
    KindsOfTails (ATail (Without label) rest) = KindsOfTails rest
    KindsOfTails (ATail (Select label) rest) = KindsOfTails rest

    pub KindsOfBranches : Branches → Type 0
    KindsOfBranches NoBranch = Unit {0}
    KindsOfBranches (ABranch pattern body rest) = EachKind body × KindsOfBranches rest

    pub KindsOfFunction : FunctionTree → Type 0
    KindsOfFunction (function at name name_at interface branches) = KindsOfBranches branches
