-- Faults of the functions that a program declares.
use Rattle.std.specs.Prelude.{◌≡◌, ◌⊎◌, ℕ, List, Some, codes}
use Rattle.cd_model.specs.AllOf.{AnyOf}
use Rattle.cd_model.specs.BuiltIns.{DATA}
use Rattle.cd_model.specs.Thing.{Thing, IsElement}
use Rattle.cd_program.specs.Expr.{FunctionTree, function, Program}
use Rattle.cd_typing.specs.declared.rule.Rule.{Rule}
use Rattle.cd_typing.specs.declared.rule.Rule.TheVariants as rule
use Rattle.cd_typing.specs.Interfaces.{Arrow, AreWritten}
use Rattle.cd_typing.specs.Typ.{In, BuiltIn, Types}
use Rattle.cd_typing.specs.Typed.{scope_of, AreDeclared}
use Rattle.cd_least.specs.Faults.{FunctionFault}

module _ (program : Program) where
  -- an arrow of `main` has a result that is no data; the place is that of the word `fun`
  abbrev pub MainFault : FunctionTree → (at : ℕ) → Rule → Thing → Type 0
  MainFault (function here name name_at interface branches) at reported d =
      (name ≡ Some (codes "main"))
      × (reported ≡ rule.MainResult) × (at ≡ here) × IsElement d × (BuiltIn DATA d → ⊥)
      × (arrows : List Arrow) × AreWritten (scope_of program) interface arrows
      × AnyOf (λ arrow. In arrow.result d) arrows

  -- of one of the functions, where each name that is declared has the type of its interface
  abbrev pub ProgramFault : (at : ℕ) → Rule → Thing → Type 0
  ProgramFault at reported d = (types : Types)
      × AreDeclared (scope_of program) program.functions types
      × AnyOf
      (λ f. FunctionFault (scope_of program) types f at reported d ⊎ MainFault f at reported d)
      program.functions
