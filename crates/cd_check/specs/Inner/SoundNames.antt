-- Expressions of a program whose names are sound, by their parts.
use Rattle.std.specs.Prelude.{◌≡◌, true, ◌++◌}
use Rattle.cd_syntax.specs.Name.{IsLabel}
use Rattle.cd_syntax.specs.WellMadePattern.{IsWellMadeConstant}
use Rattle.cd_program.specs.Expr.{Expr, expr, Kind, Constant, Variable, Tuple, Sequence, Record, Xml}
use Rattle.cd_program.specs.Expr.{Function, Apply, Match, Try, Map, Transform, Let, If, Chain, Call}
use Rattle.cd_program.specs.Expr.{Exprs, NoExpr, AnExpr, Items, NoItem, AnItem, Item, One, Splice}
use Rattle.cd_program.specs.Expr.{Run, Fields, NoField, AField, Tails, NoTail, ATail, Tail, Operand}
use Rattle.cd_program.specs.Expr.{Without, Select, Branches, NoBranch, ABranch, FunctionTree, function}
use Rattle.cd_program.specs.Expr.{Program}
use Rattle.cd_names.specs.Labels.{LacksLabel}
use Rattle.cd_names.specs.ProgramFaults.{Seen, is_seen, names_of, with_name}
use Rattle.cd_resolved.specs.Parts.{IsFunctionOf, IsPatternOf}

-- there is an expression
abbrev pub HasFirst : Exprs → Type 0
HasFirst NoExpr = ⊥
HasFirst (AnExpr e rest) = Unit {0}

module _ (program : Program) where
  -- the patterns of branches are patterns of the program
  abbrev pub ArePatternsOf : Branches → Type 0
  ArePatternsOf NoBranch = Unit {0}
  ArePatternsOf (ABranch pattern body rest) = IsPatternOf program pattern × ArePatternsOf rest

  abbrev mutual
    pub IsSound : Seen → Expr → Type 0
    IsSound seen (expr span kind) = KindIsSound seen kind

    pub KindIsSound : Seen → Kind → Type 0
    KindIsSound seen (Constant is) = IsWellMadeConstant is
    KindIsSound seen (Variable name) = is_seen seen name ≡ true
    KindIsSound seen (Tuple exprs) = AreSound seen exprs
    KindIsSound seen (Sequence items) = ItemsAreSound seen items
    KindIsSound seen (Record fields) = FieldsAreSound seen fields
    KindIsSound seen (Xml tag attributes content) =
        IsSound seen tag × IsSound seen attributes × IsSound seen content
    KindIsSound seen (Function f) = FunctionIsSound seen f
    KindIsSound seen (Apply exprs) = HasFirst exprs × AreSound seen exprs
    KindIsSound seen (Match value branches) = IsSound seen value × BranchesAreSound seen branches
    KindIsSound seen (Try value branches) = IsSound seen value × BranchesAreSound seen branches
    KindIsSound seen (Map value branches) = IsSound seen value × BranchesAreSound seen branches
    KindIsSound seen (Transform value branches) =
        IsSound seen value × BranchesAreSound seen branches
    KindIsSound seen (Let pattern value rest) = IsPatternOf program pattern × IsSound seen value
        × IsSound (names_of pattern ++ seen) rest
    KindIsSound seen (If condition then_one else_one) =
        IsSound seen condition × IsSound seen then_one × IsSound seen else_one
    KindIsSound seen (Chain first tails) = IsSound seen first × TailsAreSound seen tails
    KindIsSound seen (Call word operand) = IsSound seen operand

    pub AreSound : Seen → Exprs → Type 0
    AreSound seen NoExpr = Unit {0}
    AreSound seen (AnExpr e rest) = IsSound seen e × AreSound seen rest

    pub ItemsAreSound : Seen → Items → Type 0
    ItemsAreSound seen NoItem = Unit {0}
    ItemsAreSound seen (AnItem item rest) = ItemIsSound seen item × ItemsAreSound seen rest

    pub ItemIsSound : Seen → Item → Type 0
    ItemIsSound seen (One e) = IsSound seen e
    ItemIsSound seen (Splice e) = IsSound seen e
    ItemIsSound seen (Run characters) = Unit {0}

    pub FieldsAreSound : Seen → Fields → Type 0
    FieldsAreSound seen NoField = Unit {0}
    FieldsAreSound seen (AField label at e rest) = IsLabel label × LacksLabel label rest
        × IsSound seen e × FieldsAreSound seen rest

    pub TailsAreSound : Seen → Tails → Type 0
    TailsAreSound seen NoTail = Unit {0}
    TailsAreSound seen (ATail tail rest) = TailIsSound seen tail × TailsAreSound seen rest

    pub TailIsSound : Seen → Tail → Type 0
    TailIsSound seen (Operand op e) = IsSound seen e
    TailIsSound seen (Without label) = IsLabel label
    TailIsSound seen (Select label) = IsLabel label

    pub BranchesAreSound : Seen → Branches → Type 0
    BranchesAreSound seen NoBranch = Unit {0}
    BranchesAreSound seen (ABranch pattern body rest) = IsPatternOf program pattern
        × IsSound (names_of pattern ++ seen) body × BranchesAreSound seen rest

    pub FunctionIsSound : Seen → FunctionTree → Type 0
    FunctionIsSound seen (function at name name_at interface branches) =
        IsFunctionOf program (function at name name_at interface branches)
        × BranchesAreSound (with_name name seen) branches
