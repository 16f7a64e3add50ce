-- Two facts of each pattern in a well made program make a third one of each, where they make it of a well made pattern.
use Rattle.std.proofs.Common.{List, [], ◌∷◌}
use Rattle.cd_syntax.specs.TypeTree.{Tree}
use Rattle.cd_syntax.specs.WellMadePattern.{IsWellMadePattern}
use Rattle.cd_model.specs.AllOf.{AllOf}
use Rattle.cd_program.specs.Expr.{Expr, expr, Kind, Constant, Variable, Tuple, Sequence, Record, Xml, Function, Apply}
use Rattle.cd_program.specs.Expr.{Match, Try, Map, Transform, Let, If, Chain, Call, Exprs, NoExpr, AnExpr, Items, NoItem}
use Rattle.cd_program.specs.Expr.{AnItem, One, Splice, Run, Fields, NoField, AField, Tails, NoTail, ATail, Operand}
use Rattle.cd_program.specs.Expr.{Without, Select, Branches, NoBranch, ABranch, FunctionTree, function}
use Rattle.cd_program.specs.WellMade.{IsWellMadeExpr, IsWellMadeExprKind, AreWellMadeExprs, AreWellMadeItems}
use Rattle.cd_program.specs.WellMade.{AreWellMadeExprFields, AreWellMadeTails, AreWellMadeBranches, IsWellMadeFunction}
use Rattle.cd_program.specs.WellMade.{AreWellMadeFunctions}
use Rattle.cd_safety.specs.PatternsIn.{EachPattern, EachOfKind, EachOfExprs, EachOfItems, EachOfFields, EachOfTails}
use Rattle.cd_safety.specs.PatternsIn.{EachOfBranches, EachOfFunction}

module _ (First Other Both : Tree → Type 0)
    (makes : (pattern : Tree) → IsWellMadePattern pattern → First pattern → Other pattern → Both pattern) where
  mutual
    each : (e : Expr) → IsWellMadeExpr e → EachPattern First e → EachPattern Other e → EachPattern Both e
    each (expr span kind) made one other = of_kind kind made one other

    of_kind : (kind : Kind) → IsWellMadeExprKind kind → EachOfKind First kind → EachOfKind Other kind
        → EachOfKind Both kind
    of_kind (Constant is) made one other = tt
    of_kind (Variable name) made one other = tt
    of_kind (Tuple exprs) made one other = of_exprs exprs made.1 one other
    of_kind (Sequence items) made one other = of_items items made one other
    of_kind (Record fields) made one other = of_fields fields made one other
    of_kind (Xml tag attributes content) made one other = (
      each tag made.0 one.0 other.0,
      each attributes made.1 one.1 other.1,
      each content made.2 one.2 other.2,
    )
    of_kind (Function f) made one other = of_function f made one other
    of_kind (Apply exprs) made one other = of_exprs exprs made.1 one other
    of_kind (Match e branches) made one other =
        (each e made.0 one.0 other.0, of_branches branches made.2 one.1 other.1)
    of_kind (Try e branches) made one other =
        (each e made.0 one.0 other.0, of_branches branches made.2 one.1 other.1)
    of_kind (Map e branches) made one other =
        (each e made.0 one.0 other.0, of_branches branches made.2 one.1 other.1)
    of_kind (Transform e branches) made one other =
        (each e made.0 one.0 other.0, of_branches branches made.2 one.1 other.1)
    of_kind (Let pattern e rest) made one other = (
      makes pattern made.0 one.0 other.0,
      each e made.1 one.1 other.1,
      each rest made.2 one.2 other.2,
    )
    of_kind (If condition then_one else_one) made one other = (
      each condition made.0 one.0 other.0,
      each then_one made.1 one.1 other.1,
      each else_one made.2 one.2 other.2,
    )
    of_kind (Chain first tails) made one other =
        (each first made.0 one.0 other.0, of_tails tails made.2 one.1 other.1)
    of_kind (Call word e) made one other = each e made one other

    of_exprs : (exprs : Exprs) → AreWellMadeExprs exprs → EachOfExprs First exprs → EachOfExprs Other exprs
        → EachOfExprs Both exprs
    of_exprs NoExpr made one other = tt
    of_exprs (AnExpr e rest) made one other =
        (each e made.0 one.0 other.0, of_exprs rest made.1 one.1 other.1)

    of_items : (items : Items) → AreWellMadeItems items → EachOfItems First items → EachOfItems Other items
        → EachOfItems Both items
    of_items NoItem made one other = tt
    of_items (AnItem (One e) rest) made one other =
        (each e made.0 one.0 other.0, of_items rest made.1 one.1 other.1)
    of_items (AnItem (Splice e) rest) made one other =
        (each e made.0 one.0 other.0, of_items rest made.1 one.1 other.1)
    of_items (AnItem (Run characters) rest) made one other = of_items rest made.1 one other

    of_fields : (fields : Fields) → AreWellMadeExprFields fields → EachOfFields First fields → EachOfFields Other fields
        → EachOfFields Both fields
    of_fields NoField made one other = tt
    of_fields (AField label at e rest) made one other =
        (each e made.1 one.0 other.0, of_fields rest made.2 one.1 other.1)

    of_tails : (tails : Tails) → AreWellMadeTails tails → EachOfTails First tails → EachOfTails Other tails
        → EachOfTails Both tails
    of_tails NoTail made one other = tt
    of_tails (ATail (Operand op e) rest) made one other =
        (each e made.0 one.0 other.0, of_tails rest made.1 one.1 other.1)
    of_tails (ATail (Without label) rest) made one other = of_tails rest made.1 one other
    of_tails (ATail (Select label) rest) made one other = of_tails rest made.1 one other

    of_branches : (branches : Branches) → AreWellMadeBranches branches → EachOfBranches First branches
        → EachOfBranches Other branches → EachOfBranches Both branches
    of_branches NoBranch made one other = tt
    of_branches (ABranch pattern body rest) made one other = (
      makes pattern made.0 one.0 other.0,
      each body made.1 one.1 other.1,
      of_branches rest made.2 one.2 other.2,
    )

    of_function : (f : FunctionTree) → IsWellMadeFunction f → EachOfFunction First f → EachOfFunction Other f
        → EachOfFunction Both f
    of_function (function at name name_at interface branches) made one other = of_branches branches made.4 one other

  pub of_functions : (all : List FunctionTree) → AreWellMadeFunctions all → AllOf (EachOfFunction First) all
      → AllOf (EachOfFunction Other) all → AllOf (EachOfFunction Both) all
  of_functions [] made one other = tt
  of_functions (f ∷ rest) made one other =
      (of_function f made.1 one.0 other.0, of_functions rest made.2 one.1 other.1)
