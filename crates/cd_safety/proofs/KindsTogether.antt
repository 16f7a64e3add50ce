-- Two facts of each expression make a third one of each, where they make it of one.
use Rattle.std.proofs.Common.{List, [], ◌∷◌}
use Rattle.cd_model.specs.AllOf.{AllOf}
use Rattle.cd_program.specs.Expr.{Expr, expr, Kind, Constant, Variable, Tuple, Sequence, Record, Xml, Function, Apply, Match}
use Rattle.cd_program.specs.Expr.{Try, Map, Transform, Let, If, Chain, Call, Exprs, NoExpr, AnExpr, Items, NoItem, AnItem, One}
use Rattle.cd_program.specs.Expr.{Splice, Run, Fields, NoField, AField, Tails, NoTail, ATail, Operand, Without, Select, Branches}
use Rattle.cd_program.specs.Expr.{NoBranch, ABranch, FunctionTree, function}
use Rattle.cd_safety.specs.KindsIn.{EachKind, KindsWithin, KindsOfExprs, KindsOfItems, KindsOfFields, KindsOfTails}
use Rattle.cd_safety.specs.KindsIn.{KindsOfBranches, KindsOfFunction}

module _ (First Other Both : Kind → Type 0) (makes : (kind : Kind) → First kind → Other kind → Both kind) where
  mutual
    each : (e : Expr) → EachKind First e → EachKind Other e → EachKind Both e
    each (expr span kind) one other = (makes kind one.0 other.0, within kind one.1 other.1)

    within : (kind : Kind) → KindsWithin First kind → KindsWithin Other kind → KindsWithin Both kind
    within (Constant is) one other = tt
    within (Variable name) one other = tt
    within (Tuple exprs) one other = exprs_both exprs one other
    within (Sequence items) one other = items_both items one other
    within (Record fields) one other = fields_both fields one other
    within (Xml tag attributes content) one other =
        (each tag one.0 other.0, each attributes one.1 other.1, each content one.2 other.2)
    within (Function f) one other = of_function f one other
    within (Apply exprs) one other = exprs_both exprs one other
    within (Match e branches) one other = (each e one.0 other.0, branches_both branches one.1 other.1)
    within (Try e branches) one other = (each e one.0 other.0, branches_both branches one.1 other.1)
    within (Map e branches) one other = (each e one.0 other.0, branches_both branches one.1 other.1)
    within (Transform e branches) one other = (each e one.0 other.0, branches_both branches one.1 other.1)
    within (Let pattern e rest) one other = (each e one.0 other.0, each rest one.1 other.1)
    within (If condition then_one else_one) one other =
        (each condition one.0 other.0, each then_one one.1 other.1, each else_one one.2 other.2)
    within (Chain first tails) one other = (each first one.0 other.0, tails_both tails one.1 other.1)
    within (Call word e) one other = each e one other

    exprs_both : (exprs : Exprs) → KindsOfExprs First exprs → KindsOfExprs Other exprs → KindsOfExprs Both exprs
    exprs_both NoExpr one other = tt
    exprs_both (AnExpr e rest) one other = (each e one.0 other.0, exprs_both rest one.1 other.1)

    items_both : (items : Items) → KindsOfItems First items → KindsOfItems Other items → KindsOfItems Both items
    items_both NoItem one other = tt
    items_both (AnItem (One e) rest) one other = (each e one.0 other.0, items_both rest one.1 other.1)
    items_both (AnItem (Splice e) rest) one other = (each e one.0 other.0, items_both rest one.1 other.1)
    items_both (AnItem (Run characters) rest) one other = items_both rest one other

    fields_both : (fields : Fields) → KindsOfFields First fields → KindsOfFields Other fields → KindsOfFields Both fields
    fields_both NoField one other = tt
    fields_both (AField label at e rest) one other = (each e one.0 other.0, fields_both rest one.1 other.1)

    tails_both : (tails : Tails) → KindsOfTails First tails → KindsOfTails Other tails → KindsOfTails Both tails
    tails_both NoTail one other = tt
    tails_both (ATail (Operand op e) rest) one other = (each e one.0 other.0, tails_both rest one.1 other.1)
    tails_both (ATail (Without label) rest) one other = tails_both rest one other
    tails_both (ATail (Select label) rest) one other = tails_both rest one other

    branches_both : (branches : Branches) → KindsOfBranches First branches → KindsOfBranches Other branches → KindsOfBranches Both branches
    branches_both NoBranch one other = tt
    branches_both (ABranch pattern body rest) one other = (each body one.0 other.0, branches_both rest one.1 other.1)

    pub of_function : (f : FunctionTree) → KindsOfFunction First f → KindsOfFunction Other f → KindsOfFunction Both f
    of_function (function at name name_at interface branches) one other = branches_both branches one other

  pub of_functions : (all : List FunctionTree) → AllOf (KindsOfFunction First) all → AllOf (KindsOfFunction Other) all
      → AllOf (KindsOfFunction Both) all
  of_functions [] one other = tt
  of_functions (f ∷ rest) one other = (of_function f one.0 other.0, of_functions rest one.1 other.1)
