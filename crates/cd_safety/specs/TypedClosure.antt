-- Closures that are typed: the function of each is, where names have types that the values in the
-- environment of the closure are in.
use Rattle.std.specs.Prelude.{◌≡◌, ℕ, Some}
use Rattle.cd_syntax.specs.Name.{Name}
use Rattle.cd_syntax.specs.TypeTree.{Tree}
use Rattle.cd_syntax.specs.WellMadePattern.{IsWellMadePattern}
use Rattle.cd_model.specs.Interfaces.{Interfaces}
use Rattle.cd_model.specs.Scope.{Scope}
use Rattle.cd_model.specs.Thing.{Fields}
use Rattle.cd_matching.specs.Variables.{binds}
use Rattle.cd_matching.specs.WrittenPattern.{pattern_of}
use Rattle.cd_variables.specs.Occurrences.{has, bound}
use Rattle.cd_program.specs.Expr.{FunctionTree}
use Rattle.cd_typing.specs.Kept.{Kept}
use Rattle.cd_typing.specs.Rules.{FunctionHas}
use Rattle.cd_typing.specs.Typ.{Typ, Types, AreTypes}
use Rattle.cd_evaluation.specs.Code.{Code, place_of, named}
use Rattle.cd_safety.specs.GoodInterface.{HasGuardedInterface}
use Rattle.cd_safety.specs.PatternTypes.{IsTypedPattern}
use Rattle.cd_safety.specs.PatternValues.{NamesFit}
use Rattle.cd_safety.specs.WellWritten.{FunctionIsWritten}

-- the names that a pattern captures are those that it binds
abbrev pub CapturesItsNames : Scope → Tree → Type 0
CapturesItsNames scope pattern =
    (name : Name) → binds (pattern_of scope pattern) name ≡ has (bound pattern) name

-- a well made pattern, whose types are nodes of a graph
pub record IsGoodPattern (scope : Scope) (pattern : Tree) : Type 0 where
  pub typed : IsTypedPattern scope pattern
  pub well_made : IsWellMadePattern pattern
  pub names : CapturesItsNames scope pattern

-- a function that is found at its place, and whose interface has guarded names
pub record IsGoodFunction (scope : Scope) (code : Code) (f : FunctionTree) : Type 0 where
  pub found : code.function (place_of f) ≡ Some f
  pub guarded : HasGuardedInterface scope f

pub record IsTypedClosure (kept : Kept) (scope : Scope) (code : Code) (interfaces : Interfaces)
    (place : ℕ) (env : Fields) : Type 0 where
  pub f : FunctionTree
  pub found : code.function place ≡ Some f
  pub guarded : HasGuardedInterface scope f
  pub written : FunctionIsWritten (IsGoodPattern scope) (IsGoodFunction scope code) f
  pub types : Types
  pub are_types : AreTypes types
  pub fit : NamesFit interfaces types (named code env)
  pub t : Typ
  pub typed : FunctionHas kept scope types f t
