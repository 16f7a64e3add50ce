-- The faults of which the least is reported.
use Rattle.std.specs.Prelude.{List, Result, OnOk, IfErr}
use Rattle.cd_syntax.specs.TypeTree.{Tree, Declarations}
use Rattle.cd_model.specs.AllOf.{AnyOf}
use Rattle.cd_resolve.specs.Errors.{IsReportedError}
use Rattle.cd_resolve.specs.Faults.{Fault, IsFaultOfType}
use Rattle.cd_resolve.specs.declared.error.NameError.{NameError}

-- a fault of the types of one of these trees
abbrev pub IsFaultOfOne : Declarations → List Tree → Fault → Type 0
IsFaultOfOne types trees fault = AnyOf (λ t. IsFaultOfType types t fault) trees

-- what is reported of the faults that are such
pub record Reports (IsSuch : Fault → Type 0) (result : Result (Unit {0}) NameError) : Type 0 where
  pub sound : OnOk result ((fault : Fault) → IsSuch fault → ⊥)
  pub fault : IfErr result (λ error. IsReportedError IsSuch error)
