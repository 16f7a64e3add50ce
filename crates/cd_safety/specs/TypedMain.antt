-- The arrows of the function `main` of a program that has types.
use Rattle.std.specs.Prelude.{List}
use Rattle.cd_model.specs.AllOf.{AllOf}
use Rattle.cd_model.specs.BuiltIns.{DATA}
use Rattle.cd_model.specs.Scope.{Scope}
use Rattle.cd_program.specs.Expr.{FunctionTree}
use Rattle.cd_meaning.specs.Sets.{◌⊆◌}
use Rattle.cd_typing.specs.Interfaces.{Arrow, AreWritten}
use Rattle.cd_typing.specs.Typ.{In, BuiltIn}
use Rattle.cd_evaluation.specs.ProgramInterfaces.{interface_of}

-- the arrows of a function are types, and each gives data alone
pub record ArrowsGiveData (scope : Scope) (f : FunctionTree) : Type 0 where
  pub arrows : List Arrow
  pub are_written : AreWritten scope (interface_of f) arrows
  pub give_data : AllOf (λ arrow. In arrow.result ⊆ BuiltIn DATA) arrows
