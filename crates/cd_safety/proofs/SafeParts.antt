-- What is to be known of the parts of an expression: the run of each that has a type is safe for the type, wherever it is evaluated.
use Rattle.cd_model.specs.Interfaces.{Interfaces}
use Rattle.cd_model.specs.Scope.{Scope}
use Rattle.cd_model.specs.Thing.{Thing}
use Rattle.cd_program.specs.Expr.{Expr, Kind, Exprs, NoExpr, AnExpr, Items, NoItem, AnItem, One, Splice, Run as Letters}
use Rattle.cd_program.specs.Expr.{Fields, NoField, AField, Tails, NoTail, ATail, Operand, Without, Select, Branches, NoBranch, ABranch}
use Rattle.cd_meaning.specs.Functions.{AllMapInto}
use Rattle.cd_typing.specs.Kept.{Kept}
use Rattle.cd_typing.specs.Rules.{Has, KindHas}
use Rattle.cd_typing.specs.Typ.{Typ, In, IsType, Types}
use Rattle.cd_evaluation.specs.Code.{Code}
use Rattle.cd_evaluation.specs.Environment.{Env}
use Rattle.cd_evaluation.specs.Evaluation.{eval, eval_kind}
use Rattle.cd_evaluation.specs.Runs.{Run}
use Rattle.cd_safety.specs.Operands.{GoodIn}
use Rattle.cd_safety.specs.Safe.{IsSafe}
use Rattle.cd_safety.specs.TypedClosure.{IsGoodPattern}
use Rattle.cd_safety.specs.ValueIn.{ValueIn}
use Rattle.cd_safety.specs.Ways.{Way, code_by}
use Rattle.cd_safety.proofs.SafeNames.{Fact, Sees}

-- the rule of application: all functions of `self` map `s` into `result`
pub record IsApplication (self s result : Typ) : Type 0 where
  pub self_is : IsType self
  pub s_is : IsType s
  pub result_is : IsType result
  pub all_map : AllMapInto (In self) (In s) (In result)

module _ (kept : Kept) (scope : Scope) (code : Code) (interfaces : Interfaces) where
  abbrev pub GoodAt : Typ → Thing → Type 0
  GoodAt t v = GoodIn (Fact kept scope code interfaces) interfaces t v

  abbrev pub SafeFor : (Thing → Type 0) → (Way → Run) → Type 0
  SafeFor wanted run = IsSafe (Fact kept scope code interfaces) interfaces wanted run

  abbrev pub SafeIn : Typ → (Way → Run) → Type 0
  SafeIn t run = SafeFor (ValueIn interfaces t) run

  module _ (call : Way → Thing → Thing → Run) where
    abbrev pub ExprIsSafe : Expr → Type 0
    ExprIsSafe e = (types : Types) (env : Env) → Sees kept scope code interfaces types env → (t : Typ) → IsType t → Has kept scope types e t
        → SafeIn t (λ way. eval (code_by interfaces kept code way) (call way) e env)

    abbrev pub KindIsSafe : Kind → Type 0
    KindIsSafe kind = (types : Types) (env : Env) → Sees kept scope code interfaces types env → (t : Typ) → IsType t
        → KindHas kept scope types kind t → SafeIn t (λ way. eval_kind (code_by interfaces kept code way) (call way) kind env)

    abbrev pub ExprsAreSafe : Exprs → Type 0
    ExprsAreSafe NoExpr = Unit {0}
    ExprsAreSafe (AnExpr e rest) = ExprIsSafe e × ExprsAreSafe rest

    abbrev pub ItemsAreSafe : Items → Type 0
    ItemsAreSafe NoItem = Unit {0}
    ItemsAreSafe (AnItem (One e) rest) = ExprIsSafe e × ItemsAreSafe rest
    ItemsAreSafe (AnItem (Splice e) rest) = ExprIsSafe e × ItemsAreSafe rest
    ItemsAreSafe (AnItem (Letters characters) rest) = ItemsAreSafe rest

    abbrev pub FieldsAreSafe : Fields → Type 0
    FieldsAreSafe NoField = Unit {0}
    FieldsAreSafe (AField label at e rest) = ExprIsSafe e × FieldsAreSafe rest

    abbrev pub TailsAreSafe : Tails → Type 0
    TailsAreSafe NoTail = Unit {0}
    TailsAreSafe (ATail (Operand op e) rest) = ExprIsSafe e × TailsAreSafe rest
    TailsAreSafe (ATail (Without label) rest) = TailsAreSafe rest
    TailsAreSafe (ATail (Select label) rest) = TailsAreSafe rest

    -- the bodies of branches, whose patterns are typed
    abbrev pub BranchesAreSafe : Branches → Type 0
    BranchesAreSafe NoBranch = Unit {0}
    BranchesAreSafe (ABranch pattern body rest) = IsGoodPattern scope pattern × ExprIsSafe body × BranchesAreSafe rest

    -- an application that the rule of application allows is safe
    abbrev pub CallIsSafe : Type 0
    CallIsSafe = (self s result : Typ) → IsApplication self s result → (v w : Thing) → GoodAt self v → GoodAt s w
        → SafeIn result (λ way. call way v w)
