-- Functions whose written arrows are types.
use Rattle.std.specs.Prelude.{List}
use Rattle.cd_model.specs.AllOf.{AllOf}
use Rattle.cd_model.specs.Guarded.{NamesAreGuarded}
use Rattle.cd_model.specs.Scope.{Scope}
use Rattle.cd_matching.specs.WrittenPattern.{in_scope}
use Rattle.cd_program.specs.Expr.{FunctionTree}
use Rattle.cd_typing.specs.Interfaces.{Arrow, AreWritten}
use Rattle.cd_evaluation.specs.ProgramInterfaces.{interface_of}

-- the names in the types of a function's interface are guarded
abbrev pub HasGuardedInterface : Scope → FunctionTree → Type 0
HasGuardedInterface scope f = AllOf
    (λ signature. NamesAreGuarded (in_scope scope signature.takes)
    × NamesAreGuarded (in_scope scope signature.gives)) (interface_of f)

-- the arrows of a function are types, and their names are guarded
pub record HasGoodInterface (scope : Scope) (f : FunctionTree) : Type 0 where
  pub arrows : List Arrow
  pub are_written : AreWritten scope (interface_of f) arrows
  pub guarded : HasGuardedInterface scope f
