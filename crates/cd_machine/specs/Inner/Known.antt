-- Expressions whose parts are well made, with a fact of each pattern that stands in them.
use Rattle.std.specs.Prelude.{◌≡◌, ℕ, Some}
use Rattle.cd_syntax.specs.Name.{IsLabel}
use Rattle.cd_syntax.specs.TypeTree.{Tree}
use Rattle.cd_syntax.specs.WellMadePattern.{IsWellMadeConstant}
use Rattle.cd_model.specs.AllOf.{AllOf}
use Rattle.cd_program.specs.Expr.{Expr, expr, Kind, Constant, Tuple, Sequence, Record, Xml}
use Rattle.cd_program.specs.Expr.{Function, Apply, Match, Try, Map, Transform, Let, If, Chain}
use Rattle.cd_program.specs.Expr.{Call, Exprs, NoExpr, AnExpr, Items, NoItem, AnItem, One, Splice}
use Rattle.cd_program.specs.Expr.{Run, Fields, NoField, AField, Tails, NoTail, ATail, Operand}
use Rattle.cd_program.specs.Expr.{Without, Select, Branches, NoBranch, ABranch, FunctionTree}
use Rattle.cd_program.specs.Expr.{function}
use Rattle.cd_program.specs.WellMade.{IsWellMadeName}
use Rattle.cd_evaluation.specs.Code.{Code}
use Rattle.cd_evaluation.specs.Machine.{Frame, First, Second, Iteming, Splicing, Fielding, Tagging}
use Rattle.cd_evaluation.specs.Machine.{Attributing, Filling, Called, Argument, Matching, Trying}
use Rattle.cd_evaluation.specs.Machine.{Letting, Asking, Wording, Tailing, Operating, Listing}
use Rattle.cd_evaluation.specs.Machine.{Mapping, Sifting, Joining, Control, Evaluating, Returning}
use Rattle.cd_evaluation.specs.Machine.{State}
use Rattle.cd_machine.specs.Inner.Turn.{Turn}

module _ (Fact : Tree → Type 0) where
  abbrev mutual
    pub IsKnown : Expr → Type 0
    IsKnown (expr span kind) = KindIsKnown kind

    pub KindIsKnown : Kind → Type 0
    KindIsKnown (Constant is) = IsWellMadeConstant is
    KindIsKnown (Tuple exprs) = AreKnown exprs
    KindIsKnown (Sequence items) = ItemsAreKnown items
    KindIsKnown (Record fields) = FieldsAreKnown fields
    KindIsKnown (Xml tag attributes content) = IsKnown tag × IsKnown attributes × IsKnown content
    KindIsKnown (Function f) = FunctionIsKnown f
    KindIsKnown (Apply exprs) = AreKnown exprs
    KindIsKnown (Match e branches) = IsKnown e × BranchesAreKnown branches
    KindIsKnown (Try body branches) = IsKnown body × BranchesAreKnown branches
    KindIsKnown (Map e branches) = IsKnown e × BranchesAreKnown branches
    KindIsKnown (Transform e branches) = IsKnown e × BranchesAreKnown branches
    KindIsKnown (Let pattern e rest) = Fact pattern × IsKnown e × IsKnown rest
    KindIsKnown (If condition then_one else_one) =
        IsKnown condition × IsKnown then_one × IsKnown else_one
    KindIsKnown (Chain first tails) = IsKnown first × TailsAreKnown tails
    KindIsKnown (Call word e) = IsKnown e
    KindIsKnown kind = Unit {0}

    pub AreKnown : Exprs → Type 0
    AreKnown NoExpr = Unit {0}
    AreKnown (AnExpr e rest) = IsKnown e × AreKnown rest

    pub ItemsAreKnown : Items → Type 0
    ItemsAreKnown NoItem = Unit {0}
    ItemsAreKnown (AnItem (One e) rest) = IsKnown e × ItemsAreKnown rest
    ItemsAreKnown (AnItem (Splice e) rest) = IsKnown e × ItemsAreKnown rest
    ItemsAreKnown (AnItem (Run characters) rest) = ItemsAreKnown rest

    pub FieldsAreKnown : Fields → Type 0
    FieldsAreKnown NoField = Unit {0}
    FieldsAreKnown (AField label at e rest) = IsLabel label × IsKnown e × FieldsAreKnown rest

    pub TailsAreKnown : Tails → Type 0
    TailsAreKnown NoTail = Unit {0}
    TailsAreKnown (ATail (Operand op e) rest) = IsKnown e × TailsAreKnown rest
    TailsAreKnown (ATail (Without label) rest) = TailsAreKnown rest
    TailsAreKnown (ATail (Select label) rest) = TailsAreKnown rest

    pub BranchesAreKnown : Branches → Type 0
    BranchesAreKnown NoBranch = Unit {0}
    BranchesAreKnown (ABranch pattern body rest) =
        Fact pattern × IsKnown body × BranchesAreKnown rest

    pub FunctionIsKnown : FunctionTree → Type 0
    FunctionIsKnown (function at name name_at interface branches) =
        IsWellMadeName name × BranchesAreKnown branches

  -- each function of a code is known
  abbrev pub FunctionsAreKnown : Code → Type 0
  FunctionsAreKnown code = (at : ℕ) (f : FunctionTree) → code.function at ≡ Some f
      → FunctionIsKnown f

  -- what stands in a frame is known, and what stands in a control
  abbrev pub FrameIsKnown : Frame → Type 0
  FrameIsKnown (First next rest env) = IsKnown next × AreKnown rest
  FrameIsKnown (Second first) = Unit {0}
  FrameIsKnown (Iteming done rest env) = ItemsAreKnown rest
  FrameIsKnown (Splicing done rest env) = ItemsAreKnown rest
  FrameIsKnown (Fielding done label rest env) = IsLabel label × FieldsAreKnown rest
  FrameIsKnown (Tagging attributes content env) = IsKnown attributes × IsKnown content
  FrameIsKnown (Attributing tag content env) = IsKnown content
  FrameIsKnown (Filling tag attributes) = Unit {0}
  FrameIsKnown (Called arguments env) = AreKnown arguments
  FrameIsKnown (Argument self arguments env) = AreKnown arguments
  FrameIsKnown (Matching branches env) = BranchesAreKnown branches
  FrameIsKnown (Trying branches env) = BranchesAreKnown branches
  FrameIsKnown (Letting pattern rest env) = Fact pattern × IsKnown rest
  FrameIsKnown (Asking then_one else_one env) = IsKnown then_one × IsKnown else_one
  FrameIsKnown (Wording word) = Unit {0}
  FrameIsKnown (Tailing tails env) = TailsAreKnown tails
  FrameIsKnown (Operating op left rest env) = TailsAreKnown rest
  FrameIsKnown (Listing branches env) = BranchesAreKnown branches
  FrameIsKnown (Mapping branches env done left) = BranchesAreKnown branches
  FrameIsKnown (Sifting branches env) = BranchesAreKnown branches
  FrameIsKnown (Joining branches env done left) = BranchesAreKnown branches

  abbrev pub ControlIsKnown : Control → Type 0
  ControlIsKnown (Evaluating e env) = IsKnown e
  ControlIsKnown (Returning outcome) = Unit {0}

  abbrev pub TurnIsKnown : Turn → Type 0
  TurnIsKnown turn = ControlIsKnown turn.control × AllOf FrameIsKnown turn.pushed

  abbrev pub StateIsKnown : State → Type 0
  StateIsKnown state = ControlIsKnown state.control × AllOf FrameIsKnown state.stack
