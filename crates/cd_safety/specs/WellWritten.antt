-- What safety asks of expressions besides their types: constants are elements, runs of characters
-- are of characters, tuples have a part, and no label is written twice.
use Rattle.std.specs.Char.{IsScalar}
use Rattle.cd_syntax.specs.Name.{IsLabel}
use Rattle.cd_syntax.specs.TypeTree.{Tree}
use Rattle.cd_model.specs.AllOf.{AllOf}
use Rattle.cd_model.specs.Thing.{IsElement}
use Rattle.cd_matching.specs.Sequences.{thing_of}
use Rattle.cd_program.specs.Expr.{Expr, expr, Kind, Constant, Tuple, Sequence, Record, Xml}
use Rattle.cd_program.specs.Expr.{Function, Apply, Match, Try, Map, Transform, Let, If, Chain, Call}
use Rattle.cd_program.specs.Expr.{Exprs, NoExpr, AnExpr, Items, NoItem, AnItem, One, Splice, Run}
use Rattle.cd_program.specs.Expr.{Fields, NoField, AField, Tails, NoTail, ATail, Operand, Without}
use Rattle.cd_program.specs.Expr.{Select, Branches, NoBranch, ABranch, FunctionTree, function}
use Rattle.cd_program.specs.WellMade.{IsWellMadeName}
use Rattle.cd_names.specs.Labels.{LacksLabel, LabelsDiffer}

abbrev pub HaveCharacters : Items → Type 0
HaveCharacters NoItem = Unit {0}
HaveCharacters (AnItem (One e) rest) = HaveCharacters rest
HaveCharacters (AnItem (Splice e) rest) = HaveCharacters rest
HaveCharacters (AnItem (Run characters) rest) = AllOf IsScalar characters × HaveCharacters rest

abbrev pub AreWrittenOnce : Fields → Type 0
AreWrittenOnce NoField = Unit {0}
AreWrittenOnce (AField label at e rest) = IsLabel label × LacksLabel label rest
    × AreWrittenOnce rest

-- constants are elements, and runs are of characters
abbrev pub InRange : Kind → Type 0
InRange (Constant is) = IsElement (thing_of is)
InRange (Sequence items) = HaveCharacters items
InRange kind = Unit {0}

-- no record has a label twice
abbrev pub HasLabelsOnce : Kind → Type 0
HasLabelsOnce (Record fields) = LabelsDiffer fields
HasLabelsOnce kind = Unit {0}

-- what is asked of each expression alone
abbrev pub IsSoundKind : Kind → Type 0
IsSoundKind (Constant is) = IsElement (thing_of is)
IsSoundKind (Sequence items) = HaveCharacters items
IsSoundKind (Record fields) = LabelsDiffer fields
IsSoundKind kind = Unit {0}

abbrev pub HasPart : Exprs → Type 0
HasPart NoExpr = ⊥
HasPart (AnExpr e rest) = Unit {0}

-- all of this of an expression, and facts of each pattern and of each function that stands in it
module _ (OfPattern : Tree → Type 0) (OfFunction : FunctionTree → Type 0) where
  abbrev mutual
    pub IsWellWritten : Expr → Type 0
    IsWellWritten (expr span kind) = KindIsWritten kind

    pub KindIsWritten : Kind → Type 0
    KindIsWritten (Constant is) = IsElement (thing_of is)
    KindIsWritten (Tuple exprs) = HasPart exprs × ExprsAreWritten exprs
    KindIsWritten (Sequence items) = HaveCharacters items × ItemsAreWritten items
    KindIsWritten (Record fields) = AreWrittenOnce fields × FieldsAreWritten fields
    KindIsWritten (Xml tag attributes content) =
        IsWellWritten tag × IsWellWritten attributes × IsWellWritten content
    KindIsWritten (Function f) = OfFunction f × FunctionIsWritten f
    KindIsWritten (Apply exprs) = ExprsAreWritten exprs
    KindIsWritten (Match e branches) = IsWellWritten e × BranchesAreWritten branches
    KindIsWritten (Try body branches) = IsWellWritten body × BranchesAreWritten branches
    KindIsWritten (Map e branches) = IsWellWritten e × BranchesAreWritten branches
    KindIsWritten (Transform e branches) = IsWellWritten e × BranchesAreWritten branches
    KindIsWritten (Let pattern e rest) = OfPattern pattern × IsWellWritten e × IsWellWritten rest
    KindIsWritten (If condition then_one else_one) =
        IsWellWritten condition × IsWellWritten then_one × IsWellWritten else_one
    KindIsWritten (Chain first tails) = IsWellWritten first × TailsAreWritten tails
    KindIsWritten (Call word e) = IsWellWritten e
    KindIsWritten kind = Unit {0}

    pub ExprsAreWritten : Exprs → Type 0
    ExprsAreWritten NoExpr = Unit {0}
    ExprsAreWritten (AnExpr e rest) = IsWellWritten e × ExprsAreWritten rest

    pub ItemsAreWritten : Items → Type 0
    ItemsAreWritten NoItem = Unit {0}
    ItemsAreWritten (AnItem (One e) rest) = IsWellWritten e × ItemsAreWritten rest
    ItemsAreWritten (AnItem (Splice e) rest) = IsWellWritten e × ItemsAreWritten rest
    ItemsAreWritten (AnItem (Run characters) rest) = ItemsAreWritten rest

    pub FieldsAreWritten : Fields → Type 0
    FieldsAreWritten NoField = Unit {0}
    FieldsAreWritten (AField label at e rest) = IsWellWritten e × FieldsAreWritten rest

    pub TailsAreWritten : Tails → Type 0
    TailsAreWritten NoTail = Unit {0}
    TailsAreWritten (ATail (Operand op e) rest) = IsWellWritten e × TailsAreWritten rest
    TailsAreWritten (ATail (Without label) rest) = TailsAreWritten rest
    TailsAreWritten (ATail (Select label) rest) = TailsAreWritten rest

    pub BranchesAreWritten : Branches → Type 0
    BranchesAreWritten NoBranch = Unit {0}
    BranchesAreWritten (ABranch pattern body rest) =
        OfPattern pattern × IsWellWritten body × BranchesAreWritten rest

    pub FunctionIsWritten : FunctionTree → Type 0
    FunctionIsWritten (function at name name_at interface branches) =
        IsWellMadeName name × BranchesAreWritten branches
