-- Documents that a program takes: those in the argument of an arrow of its `main`.
use Rattle.std.specs.Prelude.{◌≡◌, true, false}
use Rattle.cd_model.specs.AllOf.{AllOf, AnyOf}
use Rattle.cd_model.specs.Thing.{Thing}
use Rattle.cd_model.specs.Written.{Written, in_written}
use Rattle.cd_matching.specs.WrittenPattern.{in_scope}
use Rattle.cd_program.specs.Expr.{Signature, FunctionTree, Program}
use Rattle.cd_typing.specs.Typed.{scope_of}
use Rattle.cd_evaluation.specs.ProgramInterfaces.{interface_of}
use Rattle.cd_safety.specs.SafeProgram.{RunsSafely}

-- the argument and the result of an arrow, as types that see what the program declares
abbrev pub argument : Program → Signature → Written
argument program signature = in_scope (scope_of program) signature.takes

abbrev pub result : Program → Signature → Written
result program signature = in_scope (scope_of program) signature.gives

module _ (program : Program) (main : FunctionTree) (document : Thing) where
  abbrev pub IsInput : Type 0
  IsInput = AnyOf (λ signature. in_written document (argument program signature) true)
      (interface_of main)

  abbrev pub IsNoInput : Type 0
  IsNoInput = AllOf (λ signature. in_written document (argument program signature) false)
      (interface_of main)

  -- Each run on the document is never stuck, and what it raises is data. Where the document is in
  -- the argument of an arrow, what it ends with is in the result
  abbrev pub IsSafeOn : Type 0
  IsSafeOn = (signature : Signature) → AnyOf (λ one. one ≡ signature) (interface_of main)
      → in_written document (argument program signature) true
      → RunsSafely program main document (result program signature)
